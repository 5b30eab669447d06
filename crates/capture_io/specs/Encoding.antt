-- How the numbers of a capture file are written, and what a record's timestamp is.
use Rattle.std.specs.Prelude.{ℕ, ◌+◌, ◌*◌, ◌/◌, List}
use Rattle.byteorder.specs.Endian.{little_number, big_number}
use Rattle.capture_io.specs.declared.encoding.Order.{Order}
use Rattle.capture_io.specs.declared.encoding.Order.TheVariants.{Little, Big}
use Rattle.capture_io.specs.declared.encoding.Resolution.{Resolution}
use Rattle.capture_io.specs.declared.encoding.Resolution.TheVariants.{Micro, Nano}

-- the number in the first n bytes, in the file's order
abbrev pub number_of : Order → ℕ → List ℕ → ℕ
number_of Little n bytes = little_number n bytes
number_of Big n bytes = big_number n bytes

-- the four magics, as the number in a file's first four bytes, most significant first: the writer puts
-- a1b2c3d4 for microseconds or a1b23c4d for nanoseconds, in its own order
abbrev pub magic : Order → Resolution → ℕ
magic Big Micro = 0xa1b2c3d4
magic Big Nano = 0xa1b23c4d
magic Little Micro = 0xd4c3b2a1
magic Little Nano = 0x4d3cb2a1

-- a fraction of a second in microseconds, rounded down
abbrev pub micros : Resolution → ℕ → ℕ
micros Micro fraction = fraction
micros Nano fraction = fraction / 1000

-- a timestamp in microseconds; a fraction past a second is taken as it is
abbrev pub timestamp : Resolution → ℕ → ℕ → ℕ
timestamp resolution seconds fraction = seconds * 1000000 + micros resolution fraction
