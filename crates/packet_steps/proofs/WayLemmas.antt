-- A packet on its way: how it enters, how it gets one group further, and what its fields are behind all groups.
use Rattle.std.proofs.Common.{◌≡◌, ◌≢◌, ℕ, ◌+◌, ◌<◌, ◌≤◌, ℤ, pos, List, [], ◌++◌, length, slice_index, drop, replicate, Option, Some, slice_get, refl, sym, ap, subst, ◌∙◌, inl, inr, arith, length-append, length-drop}
use Rattle.std.specs.List.{All}
use Rattle.std.proofs.lemmas.Bool.Decides.{eqb_tells}
use Rattle.std.proofs.lemmas.List.{get_or_append_left, get_or-replicate}
use Rattle.std.proofs.lemmas.List.Elements.{All-get_or}
use Rattle.std.proofs.lemmas.Option.{get_or_from_slice_get}
use Rattle.mp5_words.specs.Cells.{word_at}
use Rattle.mp5_words.specs.Domain.{words}
use Rattle.code_forms.specs.FlatMeaning.{flat_length, index_slot, steps_of}
use Rattle.code_forms.specs.Staged.{Fits, IsWritten, of_header, of_instr, slot_count, block_start, group_start}
use Rattle.code_forms.specs.StagedMeaning.{place, place_code, staged_loads, HasUnits, Leads, Always, IsUnplaced, Finishes, last_words}
use Rattle.code_forms.proofs.FlatLemmas.{prefix}
use Rattle.pipe_parts.specs.declared.packet.Packet.{Packet}
use Rattle.run_laws.specs.Run.{Run, arrivals, header_at, units_before, place_of, values_of}
use Rattle.run_laws.specs.Trace.{touched_at}
use Rattle.packet_steps.specs.Packet.{IsServer, HasEntry, HasUnitNumbers, IsOnWay, IsPacket}
use Rattle.packet_steps.specs.Heading.{HasNoPlace}

-- each header has a word for each field
abbrev pub AreWide : Run → Type 0
AreWide run = All (λ header. length header ≡ run.code.fields) run.headers

pub header_long : (run : Run) (t : ℕ) → AreWide run → t < arrivals run → length (header_at run t) ≡ run.code.fields
header_long run t wide there = All-get_or (λ header. length header ≡ run.code.fields) run.headers t [] there wide

-- ---- places

-- the numbers that are written for a header are those of its arrival
pub numbered : (run : Run) (t : ℕ) (header : List ℤ) (units : List ℕ) → slice_get run.headers t ≡ Some header → length run.code.groups ≤ 16
    → ((g : ℕ) → g < 16 → slice_index units g ≡ place_code (place run.code header g))
    → ((g : ℕ) → length run.code.groups ≤ g → g < 16 → slice_index units g ≡ 0) → HasUnits run.code header → HasUnitNumbers run t units
numbered run t header units read few places rest known =
    let same : header_at run t ≡ header = get_or_from_slice_get run.headers t header [] read in
    record {
      few = few;
      numbers = λ g below. places g (omega (arith, few, below)) ∙ ap (λ (h : List ℤ). place_code (place run.code h g)) (sym same);
      rest = rest;
      known = subst (λ (h : List ℤ). HasUnits run.code h) (sym same) known;
    }

-- ---- entering

-- the first values of an arrival are its header's
first_values : (run : Run) (t v : ℕ) → v < length (header_at run t) → word_at (values_of run t) v ≡ word_at (header_at run t) v
first_values run t v below =
    let more = prefix ℤ (words (flat_length run.code.arrays) (staged_loads run.code (units_before run t) (header_at run t))) (index_slot run.code.instrs run.code.fields) (steps_of run.code.arrays run.code.instrs) (header_at run t) in
    ap (λ (vals : List ℤ). word_at vals v) more.1 ∙ get_or_append_left (header_at run t) more.0 (pos 0) v below

-- with the header in the first slots an environment fits before all blocks
pub enters : (run : Run) (t : ℕ) (header old : List ℤ) → AreWide run → t < arrivals run → slice_get run.headers t ≡ Some header → length old ≡ slot_count run.code
    → Fits run.code (values_of run t) (block_start run.code 0) (header ++ drop (length header) old)
enters run t header old wide there read long =
    subst (λ (h : List ℤ). Fits run.code (values_of run t) (block_start run.code 0) (h ++ drop (length h) old)) (get_or_from_slice_get run.headers t header [] read)
    (record { long = whole; held = λ v written used. held v written })
  where
    size : length (header_at run t) ≡ run.code.fields
    size = header_long run t wide there

    whole : length (header_at run t ++ drop (length (header_at run t)) old) ≡ slot_count run.code
    whole = omega (arith, size, long, length-append (header_at run t) (drop (length (header_at run t)) old), length-drop (length (header_at run t)) old)

    held : (v : ℕ) → IsWritten run.code (block_start run.code 0) v → word_at (header_at run t ++ drop (length (header_at run t)) old) v ≡ word_at (values_of run t) v
    held v (of_header below) =
        let inside : v < length (header_at run t) = omega (arith, below, size) in
        get_or_append_left (header_at run t) (drop (length (header_at run t)) old) (pos 0) v inside ∙ sym (first_values run t v inside)
    held v (of_instr q less is) = absurd (omega arith)

-- nothing was done to an arrival that entered
pub first_way : (run : Run) (t : ℕ) (env : List ℤ) → t < arrivals run → Fits run.code (values_of run t) (group_start run.code 0) env → IsOnWay run t 0 env (replicate 16 255) (replicate 16 0)
first_way run t env there fits = record {
  arrival = there;
  group = omega arith;
  fits = fits;
  passed = λ k less. absurd (omega arith);
  unserved = λ k from less. get_or-replicate 16 k 255 0 less;
  untouched = λ k from less. get_or-replicate 16 k 0 0 less;
}

-- ---- blocks and groups

-- a block is run on an arrival
pub block_on : (run : Run) (t b : ℕ) (old new : List ℤ) → AreWide run → t < arrivals run → Leads run.code Always (block_start run.code b) (group_start run.code b) old new
    → Fits run.code (values_of run t) (block_start run.code b) old → Fits run.code (values_of run t) (group_start run.code b) new
block_on run t b old new wide there leads fits = leads (header_at run t) (units_before run t) (header_long run t wide there) tt fits

-- one group further: what was done at it is known, and nothing else was
pub further : (run : Run) (t g : ℕ) (old new : List ℤ) (by touched by_now touched_now : List ℕ) → IsOnWay run t g old by touched → g < length run.code.groups
    → ((k : ℕ) → k ≢ g → slice_index by_now k ≡ slice_index by k) → ((k : ℕ) → k ≢ g → slice_index touched_now k ≡ slice_index touched k)
    → HasEntry run t g (slice_index by_now g) (slice_index touched_now g) → Fits run.code (values_of run t) (group_start run.code (g + 1)) new
    → IsOnWay run t (g + 1) new by_now touched_now
further run t g old new by touched by_now touched_now way below same_by same_touched entry fits = record {
  arrival = way.arrival;
  group = omega (arith, below);
  fits = fits;
  passed = λ k less. elim (eqb_tells k g) [ inl h ↦ here k h.1 | inr h ↦ before k h.1 less ];
  unserved = λ k from less. same_by k (behind k from) ∙ way.unserved k (omega (arith, from)) less;
  untouched = λ k from less. same_touched k (behind k from) ∙ way.untouched k (omega (arith, from)) less;
}
  where
    behind : (k : ℕ) → g + 1 ≤ k → k ≢ g
    behind k from is = absurd (omega arith)

    here : (k : ℕ) → k ≡ g → HasEntry run t k (slice_index by_now k) (slice_index touched_now k)
    here k is = subst (λ (n : ℕ). HasEntry run t n (slice_index by_now n) (slice_index touched_now n)) (sym is) entry

    before : (k : ℕ) → k ≢ g → k < g + 1 → HasEntry run t k (slice_index by_now k) (slice_index touched_now k)
    before k other less =
        let was = way.passed k (omega (arith, other, less)) in
        record {
          served = subst (λ (n : ℕ). IsServer run t k (place_of run t k) n) (sym (same_by k other)) was.served;
          touched = same_touched k other ∙ was.touched;
        }

-- past a group at which it has no place
pub skipped : (run : Run) (p : Packet) (middle new : List ℤ) → AreWide run → IsPacket run p → HasNoPlace run p
    → Leads run.code (IsUnplaced run.code p.g) (group_start run.code p.g) (block_start run.code (p.g + 1)) p.env middle
    → Leads run.code Always (block_start run.code (p.g + 1)) (group_start run.code (p.g + 1)) middle new → IsPacket run record p { g = p.g + 1; env = new }
skipped run p middle new wide is none group block = record {
  way = further run p.t p.g p.env new p.by p.touched p.by p.touched is.way none.group (λ k other. refl) (λ k other. refl) entry
      (block_on run p.t (p.g + 1) middle new wide is.way.arrival block
      (group (header_at run p.t) (units_before run p.t) (header_long run p.t wide is.way.arrival) none.place is.way.fits));
  units = is.units;
}
  where
    small : p.g < 16
    small = let few = is.units.few in let below = none.group in omega (arith, few, below)

    entry : HasEntry run p.t p.g (slice_index p.by p.g) (slice_index p.touched p.g)
    entry = record {
      served = subst (λ (o : Option ℕ). IsServer run p.t p.g o (slice_index p.by p.g)) (sym none.place) (is.way.unserved p.g (omega arith) small);
      touched = is.way.untouched p.g (omega arith) small ∙ sym (ap (touched_at run p.t p.g) none.place);
    }

-- ---- the end

-- the last values are those of the arrival
pub finished : (run : Run) (p : Packet) (env fields : List ℤ) → AreWide run → IsPacket run p → p.g ≡ length run.code.groups → env ≡ p.env → Finishes run.code env fields
    → fields ≡ last_words run.code (values_of run p.t)
finished run p env fields wide is all same ends =
    ends (header_at run p.t) (units_before run p.t) (header_long run p.t wide is.way.arrival)
    (subst (λ (n : ℕ). Fits run.code (values_of run p.t) (group_start run.code n) env) all
    (subst (λ (e : List ℤ). Fits run.code (values_of run p.t) (group_start run.code p.g) e) (sym same) is.way.fits))
