-- A pipe before anything happened.
use Rattle.std.proofs.Common.{◌≡◌, ℕ, ◌/◌, ◌<◌, ◌≤◌, Bool, true, false, nat_lt, List, [], length, map, replicate, slice_index_or, Some, None, refl, sym, ap, subst, ◌∙◌, arith}
use Rattle.std.specs.List.{All}
use Rattle.std.proofs.lemmas.Bool.{ltb-true, ltb-false}
use Rattle.std.proofs.lemmas.List.{length-map, length-replicate, get_or-map, get_or-replicate, get_or_past}
use Rattle.std.proofs.lemmas.List.Elements.{All-nil}
use Rattle.code_forms.specs.Staged.{Staged, no_group, unit_count, HasSizes}
use Rattle.pipe_parts.specs.Waiting.{Waiting}
use Rattle.shard_rounds.specs.Rounds.{OwnerTable, AreUnits}
use Rattle.egress_order.specs.OwnPackets.{own_count, is_home}
use Rattle.run_laws.specs.Run.{Run}
use Rattle.run_laws.specs.LawfulPlans.{AreLawful}
use Rattle.packet_lines.specs.Lined.{Lined, lined_packet}
use Rattle.home_door.specs.Door.{Door}
use Rattle.group_station.specs.Steps.{first_station}
use Rattle.group_station.specs.Station.{Station}
use Rattle.pipe_stations.specs.Row.{Row, group_count}
use Rattle.pipe_stations.proofs.StartLemmas.{first_at, first_long}
use Rattle.pipe_messages.specs.declared.message.Message.{Message}
use Rattle.pipe_messages.specs.Messages.{IsMessage}
use Rattle.pipe_worker.specs.Pipe.{first_pipe}
use Rattle.pipe_worker.specs.Laws.{IsPipe}
use Rattle.pipe_worker.proofs.MessageLemmas.{have_at}

-- ---- the units

-- there may be so many of each group of the code
pub units_sized : (c : Staged) → length c.groups ≤ 16 → HasSizes c → AreUnits (map (unit_count c) c.groups)
units_sized c few sizes = record {
  groups = let long = length-map c.groups (unit_count c) in omega (arith, long, few);
  sizes = λ g d lt.
      let long = length-map c.groups (unit_count c) in
      let less : g < length c.groups = omega (arith, long, lt) in
      subst (λ n. (1 ≤ n) × (n ≤ 65536)) (sym (get_or-map (unit_count c) c.groups g no_group d less)) (sizes g less);
}

-- ---- nothing is there

-- what stands everywhere is what is read, past the list too
all_alike : {A : Type 0} (n i : ℕ) (d : A) → slice_index_or (replicate n d) i d ≡ d
all_alike n i d = by (nat_lt i n) refl
  where
    by : (b : Bool) → nat_lt i n ≡ b → slice_index_or (replicate n d) i d ≡ d
    by true e = get_or-replicate n i d d (ltb-true i n e)
    by false e =
        let long = length-replicate n d in
        let past = ltb-false i n e in
        get_or_past (replicate n d) i d (omega arith)

-- no plans are lawful
none_lawful : (run : Run) → AreLawful run []
none_lawful run = record { few = omega arith; chosen = λ e lt. absurd (omega (arith, lt)) }

pub first_lawful : (run : Run) (pipe : ℕ) → pipe < run.settings.pipelines → All (λ header. length header ≡ run.code.fields) run.headers → IsPipe (first_pipe run pipe)
first_lawful run pipe within wide = record {
  whole = record {
    pipe = within;
    wide = wide;
    run = refl;
    number = refl;
    owners = record {
      units = refl;
      pipelines = refl;
      lawful = none_lawful run;
      known = λ g lt.
          let long = first_long run pipe (group_count run) in
          let first = first_at run pipe (group_count run) g (first_station run pipe g) (omega (arith, long, lt)) in
          let round = ap (λ (s : Station). s.round) first in
          omega (arith, round);
    };
    plans = refl;
    door = record { pipe = refl; pipelines = refl; arrivals = refl; window = refl; fields = refl; slots = refl };
    pipes = refl;
    window = refl;
    packets = length-replicate (length run.headers) None;
    boxes = length-replicate run.settings.pipelines [];
    room = refl;
  };
  packets = λ t p e.
      let none : lined_packet (first_pipe run pipe).packets t ≡ None = all_alike (length run.headers) t None in
      let no : Some p ≡ None = sym e ∙ none in
      absurd (cc);
  arrivals = record {
    known = λ k lt. absurd (omega (arith, lt));
    home = λ t lt own here.
        let none : is_home (first_pipe run pipe).door.exit (t / run.settings.pipelines) ≡ false =
        all_alike (own_count pipe run.settings.pipelines (length run.headers)) (t / run.settings.pipelines) false in
        absurd (cc);
  };
  messages = λ q lt.
      have_at (first_pipe run pipe) run pipe 0 q [] refl refl refl (sym (all_alike {A = List Message} run.settings.pipelines q []))
      record { laws = All-nil (IsMessage run pipe q); from = 0; all = refl; own = refl };
}

-- the same of parts that were made so
pub made_lawful : (run now : Run) (pipe : ℕ) (owners : OwnerTable) (door : Door) (packets : Lined) (row : Row) (outbox : Waiting Message) → now ≡ run → pipe < run.settings.pipelines → All (λ header. length header ≡ run.code.fields) run.headers
    → owners ≡ (first_pipe run pipe).owners → door ≡ (first_pipe run pipe).door → packets ≡ (first_pipe run pipe).packets → row ≡ (first_pipe run pipe).row → outbox ≡ (first_pipe run pipe).outbox
    → IsPipe record { run = now; pipe = pipe; owners = owners; door = door; packets = packets; row = row; outbox = outbox }
made_lawful run now pipe owners door packets row outbox same within wide o d p r b =
    subst IsPipe (λ i. record { run = sym same i; pipe = pipe; owners = sym o i; door = sym d i; packets = sym p i; row = sym r i; outbox = sym b i }) (first_lawful run pipe within wide)
