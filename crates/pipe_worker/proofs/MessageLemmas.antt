-- The messages that wait: what their law looks at, and that it stays as messages come and go.
use Rattle.std.proofs.Common.{◌≡◌, ◌≢◌, ℕ, zero, suc, ◌+◌, ◌*◌, ◌<◌, List, [], ◌∷◌, ◌++◌, length, length-append, drop, refl, sym, ap, subst, ◌∙◌, inl, inr, arith}
use Rattle.std.specs.List.{All}
use Rattle.std.proofs.lemmas.List.{append_assoc, append-nil, get_or-set_same, get_or-set_other, get_or-map}
use Rattle.std.proofs.lemmas.List.Elements.{All-head, All-tail, All-push}
use Rattle.std.proofs.lemmas.Bool.Decides.{eqb_tells}
use Rattle.pipe_parts.specs.Waiting.{Waiting, waits_for, with_waiting}
use Rattle.run_laws.specs.Run.{Run}
use Rattle.pipe_messages.specs.declared.message.Message.{Message}
use Rattle.pipe_messages.specs.declared.message.Message.TheVariants.{Phantom, Packet, Cell, Home}
use Rattle.pipe_messages.specs.Messages.{IsMessage, IsPhantom, announced_by, phantoms_in, own_arrivals}
use Rattle.pipe_worker.specs.Pipe.{Pipe, waiting, told, told_all}
use Rattle.pipe_worker.specs.Laws.{HasMessages}

-- the law of all messages that wait
abbrev pub HaveMessages : Pipe → Type 0
HaveMessages s = (q : ℕ) → q < s.run.settings.pipelines → HasMessages s q

-- ---- lists of messages

-- the law of messages for a pipe, by what it looks at
pub record Waits (run : Run) (pipe entered q : ℕ) (ms : List Message) : Type 0 where
  pub laws : All (IsMessage run pipe q) ms
  pub from : ℕ
  pub all : from + length (phantoms_in ms) ≡ entered
  pub own : phantoms_in ms ≡ own_arrivals run pipe from (length (phantoms_in ms))

phantoms_in-append : (xs ys : List Message) → phantoms_in (xs ++ ys) ≡ phantoms_in xs ++ phantoms_in ys
phantoms_in-append [] ys = refl
phantoms_in-append (m ∷ xs) ys = ap (λ ts. announced_by m ++ ts) (phantoms_in-append xs ys) ∙ sym (append_assoc (announced_by m) (phantoms_in xs) (phantoms_in ys))

-- one own arrival more
own_more : (run : Run) (pipe from n : ℕ) → own_arrivals run pipe from (suc n) ≡ own_arrivals run pipe from n ++ (pipe + (from + n) * run.settings.pipelines) ∷ []
own_more run pipe from zero = ap (λ k. (pipe + k * run.settings.pipelines) ∷ []) (omega arith)
own_more run pipe from (suc n) =
    ap (λ ts. (pipe + from * run.settings.pipelines) ∷ ts)
    (own_more run pipe (from + 1) n ∙ ap (λ k. own_arrivals run pipe (from + 1) n ++ (pipe + k * run.settings.pipelines) ∷ []) (omega arith))

-- a message that is no phantom waits behind the others
pushed : (run : Run) (pipe entered q : ℕ) (ms : List Message) (m : Message) → Waits run pipe entered q ms → IsMessage run pipe q m → phantoms_in (m ∷ []) ≡ [] → Waits run pipe entered q (ms ++ m ∷ [])
pushed run pipe entered q ms m h law quiet = record {
  laws = All-push (IsMessage run pipe q) ms m h.laws law;
  from = h.from;
  all = ap (λ ts. h.from + length ts) same ∙ h.all;
  own = same ∙ h.own ∙ ap (λ ts. own_arrivals run pipe h.from (length ts)) (sym same);
}
  where
    same : phantoms_in (ms ++ m ∷ []) ≡ phantoms_in ms
    same = phantoms_in-append ms (m ∷ []) ∙ ap (λ ts. phantoms_in ms ++ ts) quiet ∙ append-nil (phantoms_in ms)

-- the phantom of the next own arrival does
announced : (run : Run) (pipe entered q t : ℕ) (units : List ℕ) (ms : List Message) → Waits run pipe entered q ms → IsPhantom run pipe t units → t ≡ pipe + entered * run.settings.pipelines
    → Waits run pipe (entered + 1) q (ms ++ Phantom t units ∷ [])
announced run pipe entered q t units ms h law next = record {
  laws = All-push (IsMessage run pipe q) ms (Phantom t units) h.laws law;
  from = h.from;
  all = let all = h.all in let more = long in omega arith;
  own = (
      more
      ∙ (λ i. h.own i ++ at i ∷ [])
      ∙ sym (own_more run pipe h.from (length (phantoms_in ms)))
      ∙ ap (own_arrivals run pipe h.from) (sym long));
}
  where
    more : phantoms_in (ms ++ Phantom t units ∷ []) ≡ phantoms_in ms ++ t ∷ []
    more = phantoms_in-append ms (Phantom t units ∷ [])

    long : length (phantoms_in (ms ++ Phantom t units ∷ [])) ≡ suc (length (phantoms_in ms))
    long = ap length more ∙ length-append (phantoms_in ms) (t ∷ []) ∙ omega arith

    at : t ≡ pipe + (h.from + length (phantoms_in ms)) * run.settings.pipelines
    at = next ∙ ap (λ n. pipe + n * run.settings.pipelines) (sym h.all)

-- the first goes
popped : (run : Run) (pipe entered q : ℕ) (ms : List Message) → Waits run pipe entered q ms → Waits run pipe entered q (drop 1 ms)
popped run pipe entered q [] h = h
popped run pipe entered q (Phantom t units ∷ ms) h = record {
  laws = All-tail (IsMessage run pipe q) (Phantom t units) ms h.laws;
  from = h.from + 1;
  all = let all = h.all in omega arith;
  own = ap (drop 1) h.own;
}
popped run pipe entered q (Packet t g env by touched ∷ ms) h = record { laws = All-tail (IsMessage run pipe q) (Packet t g env by touched) ms h.laws; from = h.from; all = h.all; own = h.own }
popped run pipe entered q (Cell g u round unit ∷ ms) h = record { laws = All-tail (IsMessage run pipe q) (Cell g u round unit) ms h.laws; from = h.from; all = h.all; own = h.own }
popped run pipe entered q (Home t env by touched ∷ ms) h = record { laws = All-tail (IsMessage run pipe q) (Home t env by touched) ms h.laws; from = h.from; all = h.all; own = h.own }

-- ---- the messages of a pipe

waits_at : (s : Pipe) (q : ℕ) → HasMessages s q → Waits s.run s.pipe s.door.exit.entered q (waiting s q)
waits_at s q h = record { laws = h.laws; from = h.phantoms.from; all = h.phantoms.all; own = h.phantoms.own }

-- what is known of the messages for a pipe is their law
pub have_at : (s : Pipe) (run : Run) (pipe entered q : ℕ) (ms : List Message) → run ≡ s.run → pipe ≡ s.pipe → entered ≡ s.door.exit.entered → ms ≡ waiting s q → Waits run pipe entered q ms → HasMessages s q
have_at s run pipe entered q ms e f g is h =
    let here : Waits s.run s.pipe s.door.exit.entered q (waiting s q) =
    subst (λ (x : Run × ℕ × ℕ × List Message). Waits x.0 x.1 x.2 q x.3) (λ i. (e i, f i, g i, is i)) h in
    record { laws = here.laws; phantoms = record { from = here.from; all = here.all; own = here.own } }

-- the law goes from a pipe to one with the same run, number, outbox and count of entered arrivals
pub messages_kept : (s s' : Pipe) → s'.run ≡ s.run → s'.pipe ≡ s.pipe → s'.outbox ≡ s.outbox → s'.door.exit.entered ≡ s.door.exit.entered → HaveMessages s → HaveMessages s'
messages_kept s s' run pipe outbox entered have q lt =
    have_at s' s.run s.pipe s.door.exit.entered q (waiting s q) (sym run) (sym pipe) (sym entered) (ap (λ o. waits_for o q) (sym outbox))
    (waits_at s q (have q (subst (λ (r : Run). q < r.settings.pipelines) run lt)))

-- what waits after others were put for a pipe
put_same : (o : Waiting Message) (q : ℕ) (ms : List Message) → q < length o.lines → waits_for (with_waiting o q ms) q ≡ ms
put_same o q ms lt = get_or-set_same o.lines q ms [] lt

put_other : (o : Waiting Message) (to q : ℕ) (ms : List Message) → q ≢ to → waits_for (with_waiting o to ms) q ≡ waits_for o q
put_other o to q ms other = get_or-set_other o.lines to q ms [] other

-- others wait for a pipe, which keep the law
put_keeps : (s : Pipe) → HaveMessages s → length s.outbox.lines ≡ s.run.settings.pipelines → (to : ℕ) (ms : List Message) → (to < s.run.settings.pipelines → Waits s.run s.pipe s.door.exit.entered to ms)
    → HaveMessages (record s { outbox = with_waiting s.outbox to ms })
put_keeps s have boxes to ms law q lt = elim (eqb_tells q to) [
  | inl e ↦ subst (λ n. HasMessages (record s { outbox = with_waiting s.outbox n ms }) q) e.1
      (have_at (record s { outbox = with_waiting s.outbox q ms }) s.run s.pipe s.door.exit.entered q ms refl refl refl (sym (put_same s.outbox q ms (omega (arith, lt, boxes))))
      (subst (λ n. n < s.run.settings.pipelines → Waits s.run s.pipe s.door.exit.entered n ms) (sym e.1) law lt))
  | inr e ↦ have_at (record s { outbox = with_waiting s.outbox to ms }) s.run s.pipe s.door.exit.entered q (waiting s q) refl refl refl (sym (put_other s.outbox to q ms e.1)) (waits_at s q (have q lt))
]

-- one message that isn't a phantom waits more for a pipe
pub told_keeps : (s : Pipe) → HaveMessages s → length s.outbox.lines ≡ s.run.settings.pipelines → (to : ℕ) (m : Message) → IsMessage s.run s.pipe to m → phantoms_in (m ∷ []) ≡ []
    → HaveMessages (record s { outbox = told s.outbox to m })
told_keeps s have boxes to m law quiet =
    put_keeps s have boxes to (waiting s to ++ m ∷ []) (λ lt. pushed s.run s.pipe s.door.exit.entered to (waiting s to) m (waits_at s to (have to lt)) law quiet)

-- the phantom of the arrival that enters waits for every pipe
pub told_all_keeps : (s s' : Pipe) (t : ℕ) (units : List ℕ) → HaveMessages s → length s.outbox.lines ≡ s.run.settings.pipelines → IsPhantom s.run s.pipe t units → t ≡ s.pipe + s.door.exit.entered * s.run.settings.pipelines
    → s'.run ≡ s.run → s'.pipe ≡ s.pipe → s'.outbox ≡ told_all s.outbox (Phantom t units) → s'.door.exit.entered ≡ s.door.exit.entered + 1 → HaveMessages s'
told_all_keeps s s' t units have boxes law next run pipe outbox entered q lt =
    let within : q < s.run.settings.pipelines = subst (λ (r : Run). q < r.settings.pipelines) run lt in
    have_at s' s.run s.pipe (s.door.exit.entered + 1) q (waiting s q ++ Phantom t units ∷ []) (sym run) (sym pipe) (sym entered)
    (sym (ap (λ o. waits_for o q) outbox ∙ get_or-map (λ line. line ++ Phantom t units ∷ []) s.outbox.lines q [] [] (omega (arith, within, boxes))))
    (announced s.run s.pipe s.door.exit.entered q t units (waiting s q) (waits_at s q (have q within)) law next)

-- the first message goes
pub first_out : (s : Pipe) → HaveMessages s → length s.outbox.lines ≡ s.run.settings.pipelines → (to : ℕ) → HaveMessages (record s { outbox = with_waiting s.outbox to (drop 1 (waiting s to)) })
first_out s have boxes to =
    put_keeps s have boxes to (drop 1 (waiting s to)) (λ lt. popped s.run s.pipe s.door.exit.entered to (waiting s to) (waits_at s to (have to lt)))

-- and it keeps its law
pub first_law : (s : Pipe) (to : ℕ) (m : Message) (rest : List Message) → HasMessages s to → waiting s to ≡ m ∷ rest → IsMessage s.run s.pipe to m
first_law s to m rest h is = All-head (IsMessage s.run s.pipe to) m rest (subst (All (IsMessage s.run s.pipe to)) is h.laws)
