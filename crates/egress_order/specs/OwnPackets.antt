-- The own packets of one pipe: how many entered, which are home, and the words of their fields.
use Rattle.std.specs.Prelude.{◌≡◌, ℕ, ◌+◌, ◌-◌, ◌*◌, ◌/◌, ◌%◌, ◌<◌, ◌≤◌, ◌==◌, Bool, true, false, if◌then◌else◌, List, [], ◌∷◌, ◌++◌, length, take, drop, ℤ, pos, slice_index_or, slice_set, replicate}

-- what a home exit is: a flag and `fields` words for each own arrival, in order of arrival
pub record OwnPackets : Type 0 where
  pub pipe : ℕ
  pub pipelines : ℕ
  pub arrivals : ℕ
  pub window : ℕ
  pub fields : ℕ
  pub entered : ℕ
  pub home : List Bool
  pub words : List ℤ

-- the own arrival with a number, counted from 0
abbrev pub own_arrival : OwnPackets → ℕ → ℕ
own_arrival e k = e.pipe + k * e.pipelines

-- how many arrivals are own ones
abbrev pub own_count : ℕ → ℕ → ℕ → ℕ
own_count pipe pipelines arrivals = (arrivals + (pipelines - 1 - pipe)) / pipelines

-- an exit before the first arrival enters
abbrev pub unentered : ℕ → ℕ → ℕ → ℕ → ℕ → OwnPackets
unentered pipe pipelines arrivals window fields = record { pipe = pipe; pipelines = pipelines; arrivals = arrivals; window = window; fields = fields; entered = 0; home = replicate (own_count pipe pipelines arrivals) false; words = replicate (own_count pipe pipelines arrivals * fields) (pos 0) }

-- how many flags are set before the first that is not
abbrev pub leading : List Bool → ℕ
leading [] = 0
leading (true ∷ flags) = 1 + leading flags
leading (false ∷ flags) = 0

-- how many own arrivals have left: they and all before them are home
abbrev pub left_count : OwnPackets → ℕ
left_count e = leading e.home

-- whether the own arrival with a number is home
abbrev pub is_home : OwnPackets → ℕ → Bool
is_home e k = slice_index_or e.home k false

-- the arrival is an own one, has entered, and is not home
pub record IsAway (e : OwnPackets) (t : ℕ) : Type 0 where
  pub own : t % e.pipelines ≡ e.pipe
  pub entered : t / e.pipelines < e.entered
  pub away : is_home e (t / e.pipelines) ≡ false

-- the words with others in place of those from a word on
abbrev pub written : List ℤ → ℕ → List ℤ → List ℤ
written words from others = take from words ++ (others ++ drop (from + length others) words)

-- the exit after an arrival came home with its fields
abbrev pub came_home : OwnPackets → ℕ → List ℤ → OwnPackets
came_home e t fields = record { pipe = e.pipe; pipelines = e.pipelines; arrivals = e.arrivals; window = e.window; fields = e.fields; entered = e.entered; home = slice_set e.home (t / e.pipelines) true; words = written e.words (t / e.pipelines * e.fields) fields }

-- the word of a field of an own arrival
abbrev pub word_of : OwnPackets → ℕ → ℕ → ℤ
word_of e t field = slice_index_or e.words (t / e.pipelines * e.fields + field) (pos 0)

-- own packets stand where they are in order of arrival, and all other words are as they were
pub record IsMerged (e : OwnPackets) (before after : List ℤ) : Type 0 where
  pub size : length after ≡ length before
  pub packets : (t field : ℕ) → t < e.arrivals → field < e.fields
      → slice_index_or after (t * e.fields + field) (pos 0) ≡ (if t % e.pipelines == e.pipe then word_of e t field else slice_index_or before (t * e.fields + field) (pos 0))

-- what is true of each exit
pub record IsExit (e : OwnPackets) : Type 0 where
  pub pipe : e.pipe < e.pipelines
  pub pipelines : e.pipelines ≤ 16
  pub arrivals : e.arrivals ≤ 262144
  pub limit : e.window ≤ 1024
  pub few : e.fields ≤ 32
  pub owns : (k : ℕ) → k < length e.home → own_arrival e k < e.arrivals
  pub all : (k : ℕ) → own_arrival e k < e.arrivals → k < length e.home
  pub words : length e.words ≡ length e.home * e.fields
  pub entered : e.entered ≤ length e.home
  pub away : (k : ℕ) → e.entered ≤ k → is_home e k ≡ false
  pub left : left_count e ≤ e.entered
  pub window : e.entered ≤ left_count e + e.window

-- the exit, and the count of those that left
pub record Counts (e : OwnPackets) (left : ℕ) : Type 0 where
  pub laws : IsExit e
  pub count : left ≡ left_count e
