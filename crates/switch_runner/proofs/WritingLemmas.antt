-- Texts put one after another are put as one.
use Rattle.std.proofs.Common.{◌≡◌, ◌∙◌, ◌≤◌, ◌<◌, ◌+◌, get_or, add-one, drop-cons, Result, Ok, Err, ◌^◌, ◌-◌, ℕ, List, [], ◌++◌, length, take, drop, Option, Some, None, refl, sym, ap, subst, arith, append_assoc, min}
use Rattle.std.proofs.lemmas.List.{append-nil, append_cancel_left, take-append-drop}
use Rattle.std.specs.List.{flat_map}
use Rattle.std.specs.Prelude.{OnOk, OnErr}
use Rattle.std.proofs.Math.Seq.{take-append-add, take-append_seam, take-length, take-nil}
use Rattle.switch_runner.specs.Outside.{SinkView, Rose, TookFront, gained, Grew, Stopped}
use Rattle.switch_runner.specs.Writing.{At, at, Wrote, Broke, Puts, Writes}
use Rattle.switch_runner.specs.declared.status.Status.{Status}
use Rattle.switch_runner.specs.Causes.{line}
use Rattle.switch_runner.specs.Laws.{Tells}
use Rattle.switch_runner.proofs.TransferLemmas.{TookFront-first, TookFront-second}

-- what is gained in two parts is gained at once
gained-append : (a b : List ℕ) (o : Option (List ℕ)) → gained (a ++ b) o ≡ gained b (gained a o)
gained-append a b None = refl
gained-append a b (Some o) = ap Some (sym (append_assoc o a b))

gained-nil : (o : Option (List ℕ)) → gained [] o ≡ o
gained-nil None = refl
gained-nil (Some o) = ap Some (append-nil o)

some_same : (a b : List ℕ) → ◌≡◌ {A = Option (List ℕ)} (Some a) (Some b) → a ≡ b
some_same a b e = cc

-- two lists that go on from the same one, one of them in two parts
rest_same : (o f w x : List ℕ) → (o ++ f) ++ w ≡ o ++ x → f ++ w ≡ x
rest_same o f w x e = append_cancel_left o (f ++ w) x (sym (append_assoc o f w) ∙ e)

regrouped : (f w b waits a : List ℕ) → f ++ w ≡ waits ++ a → f ++ (w ++ b) ≡ waits ++ (a ++ b)
regrouped f w b waits a e = sym (append_assoc f w b) ∙ ap (λ l. l ++ b) e ∙ append_assoc waits a b

joined : (o f y z : List ℕ) (m : ℕ) → f ++ y ≡ z → (o ++ f) ++ take m y ≡ o ++ take (length f + m) z
joined o f y z m e = append_assoc o f (take m y) ∙ ap (λ l. o ++ l) (sym (take-append-add f y m) ∙ ap (take (length f + m)) e)

pub took_then : (old mid new : Option (List ℕ)) (waits waits' a b : List ℕ) → gained waits' mid ≡ gained (waits ++ a) old
    → TookFront old mid (waits ++ a) → TookFront mid new (waits' ++ b) → TookFront old new (waits ++ (a ++ b))
took_then None mid new waits waits' a b whole (n, first) (m, second) = (0, second ∙ ap (gained (take m (waits' ++ b))) first)
took_then (Some o) mid new waits waits' a b whole (n, first) (m, second) =
    let f : List ℕ = take n (waits ++ a) in
    let same : f ++ waits' ≡ waits ++ a = rest_same o f waits' (waits ++ a) (some_same ((o ++ f) ++ waits') (o ++ (waits ++ a)) (sym (ap (gained waits') first) ∙ whole)) in
    (length f + m, second ∙ ap (gained (take m (waits' ++ b))) first ∙ ap Some (joined o f (waits' ++ b) (waits ++ (a ++ b)) m (regrouped f waits' b waits a same)))

shorter : (n : ℕ) (xs ys : List ℕ) → take n xs ≡ take (length (take n xs)) (xs ++ ys)
shorter n xs ys =
    sym (take-append_seam (take n xs) (drop n xs ++ ys))
    ∙ ap (take (length (take n xs))) (sym (append_assoc (take n xs) (drop n xs) ys) ∙ ap (λ l. l ++ ys) (take-append-drop n xs))

took_more : (old new : Option (List ℕ)) (waits a b : List ℕ) → TookFront old new (waits ++ a) → TookFront old new (waits ++ (a ++ b))
took_more old new waits a b (n, first) =
    (length (take n (waits ++ a)), first ∙ ap (λ l. gained l old) (shorter n (waits ++ a) b ∙ ap (take (length (take n (waits ++ a)))) (append_assoc waits a b)))

pub wrote_none : (s : At) → Wrote [] s s
wrote_none s = record { whole = ap (λ l. gained l s.taken) (sym (append-nil s.waits)); front = (0, sym (gained-nil s.taken)); later = omega arith }

pub wrote_then : (a b : List ℕ) (s t u : At) → Wrote a s t → Wrote b t u → Wrote (a ++ b) s u
wrote_then a b s t u p q = record {
  whole = q.whole ∙ gained-append t.waits b t.taken ∙ ap (gained b) p.whole ∙ sym (gained-append (s.waits ++ a) b s.taken) ∙ ap (λ l. gained l s.taken) (append_assoc s.waits a b);
  front = took_then s.taken t.taken u.taken s.waits t.waits a b p.whole p.front q.front;
  later = omega (arith, p.later, q.later);
}

pub broke_then : (a b : List ℕ) (s t u : At) → Wrote a s t → Broke b t u → Broke (a ++ b) s u
broke_then a b s t u p q = record {
  front = took_then s.taken t.taken u.taken s.waits t.waits a b p.whole p.front q.front;
  later = omega (arith, p.later, q.later);
  rose = let h : s.faults ≤ t.faults = p.later in let k : min (t.faults + 1) (2 ^ 64 - 1) ≤ u.faults = q.rose in omega arith;
}

pub broke_more : (a b : List ℕ) (s u : At) → Broke a s u → Broke (a ++ b) s u
broke_more a b s u p = record { front = took_more s.taken u.taken s.waits a b p.front; later = p.later; rose = p.rose }

-- all of a list was taken
took_all : (bytes : List ℕ) (old new : Option (List ℕ)) → new ≡ gained bytes old → TookFront old new bytes
took_all bytes old new e = (length bytes, e ∙ ap (λ l. gained l old) (sym (take-length bytes)))

-- what waited was taken, and the text waits
pub wrote_flushed : (text : List ℕ) (s t : At) (waited : List ℕ) → waited ≡ s.waits → t.waits ≡ text → t.taken ≡ gained waited s.taken → s.faults ≤ t.faults → Wrote text s t
wrote_flushed text s t waited same waits taken later = record {
  whole = ap (λ l. gained l t.taken) waits ∙ ap (gained text) (taken ∙ ap (λ l. gained l s.taken) same) ∙ sym (gained-append s.waits text s.taken);
  front = TookFront-first s.waits waited text s.taken t.taken same (took_all waited s.taken t.taken taken);
  later = later;
}

-- what waited was taken, and then the text
pub wrote_through : (text : List ℕ) (s t : At) (mid : Option (List ℕ)) (waited : List ℕ) → waited ≡ s.waits → t.waits ≡ [] → mid ≡ gained waited s.taken → t.taken ≡ gained text mid → s.faults ≤ t.faults → Wrote text s t
wrote_through text s t mid waited same waits first second later = record {
  whole = ap (λ l. gained l t.taken) waits ∙ gained-nil t.taken ∙ second ∙ ap (gained text) (first ∙ ap (λ l. gained l s.taken) same) ∙ sym (gained-append s.waits text s.taken);
  front = TookFront-second s.waits waited text s.taken mid t.taken same first (took_all text mid t.taken second);
  later = later;
}

-- a text is on its way: all but this rest of it is put
pub record Goes (whole rest : List ℕ) (old new : At) : Type 0 where
  pub done : List ℕ
  pub parts : done ++ rest ≡ whole
  pub wrote : Wrote done old new

pub goes_start : (whole : List ℕ) (s : At) → Goes whole whole s s
goes_start whole s = record { done = []; parts = refl; wrote = wrote_none s }

pub goes_on : (whole piece rest rest' : List ℕ) (s t u : At) → rest ≡ piece ++ rest' → Goes whole rest s t → Wrote piece t u → Goes whole rest' s u
goes_on whole piece rest rest' s t u e g w = record {
  done = g.done ++ piece;
  parts = append_assoc g.done piece rest' ∙ ap (λ l. g.done ++ l) (sym e) ∙ g.parts;
  wrote = wrote_then g.done piece s t u g.wrote w;
}

pub goes_broken : (whole piece rest rest' : List ℕ) (s t u : At) → rest ≡ piece ++ rest' → Goes whole rest s t → Broke piece t u → Broke whole s u
goes_broken whole piece rest rest' s t u e g b =
    subst (λ (l : List ℕ). Broke l s u) (append_assoc g.done piece rest' ∙ ap (λ l. g.done ++ l) (sym e) ∙ g.parts)
    (broke_more (g.done ++ piece) rest' s u (broke_then g.done piece s t u g.wrote b))

pub goes_end : (whole rest : List ℕ) (s t : At) → rest ≡ [] → Goes whole rest s t → Wrote whole s t
goes_end whole rest s t e g = subst (λ (l : List ℕ). Wrote l s t) (sym (append-nil g.done) ∙ ap (λ l. g.done ++ l) (sym e) ∙ g.parts) g.wrote

-- the pieces from one on are that one and those after it
pub flat_map_from : {X : Type 0} (f : X → List ℕ) (xs : List X) (i : ℕ) (d : X) → i < length xs → flat_map f (drop i xs) ≡ f (get_or xs i d) ++ flat_map f (drop (i + 1) xs)
flat_map_from f xs i d h = rw (add-one, drop-cons xs i d) refl

-- the last part of a text
pub puts_last : {T E : Type 0} (whole piece : List ℕ) (s t u : At) (r : Result T E) → Goes whole piece s t → Puts piece t u r → Puts whole s u r
puts_last whole piece s t u (Ok x) g w = goes_end whole [] s u refl (goes_on whole piece piece [] s t u (sym (append-nil piece)) g w)
puts_last whole piece s t u (Err e) g b = goes_broken whole piece piece [] s t u (sym (append-nil piece)) g b

-- a result tells of a text what it tells of what is written last
pub puts_through : {T E : Type 0} (r : Result T E) (last : List ℕ) (v w : SinkView) (text : List ℕ) (s u : At) → OnOk r (Grew last v w) → OnErr r (Stopped last v w)
    → (Grew last v w → Wrote text s u) → (Stopped last v w → Broke text s u) → Puts text s u r
puts_through (Ok x) last v w text s u ok err whole broke = whole ok
puts_through (Err e) last v w text s u ok err whole broke = broke err

-- what waits is on its way too, where nothing waited before
pub took_flushed : (text : List ℕ) (s t : At) (new : Option (List ℕ)) → s.waits ≡ [] → Wrote text s t → TookFront t.taken new t.waits → TookFront s.taken new text
took_flushed text s t new empty w took =
    let all : TookFront s.taken new (s.waits ++ (text ++ [])) =
    took_then s.taken t.taken new s.waits t.waits text [] w.whole w.front (subst (λ (l : List ℕ). TookFront t.taken new l) (sym (append-nil t.waits)) took) in
    subst (λ (l : List ℕ). TookFront s.taken new l) (ap (λ l. l ++ (text ++ [])) empty ∙ append-nil text) all

-- a text that was put where nothing waited, and then what waits was written
pub grew_flushed : (text waits waits' : List ℕ) (old middle new : SinkView) → waits ≡ [] → Wrote text (at waits old) (at waits' middle) → Grew waits' middle new → Grew text old new
grew_flushed text waits waits' old middle new empty w grew = record {
  taken = grew.taken ∙ w.whole ∙ ap (λ l. gained (l ++ text) old.taken) empty;
  later = omega (arith, w.later, grew.later);
}

pub stopped_flushed : (text waits waits' : List ℕ) (old middle new : SinkView) → waits ≡ [] → Wrote text (at waits old) (at waits' middle) → Stopped waits' middle new → Stopped text old new
stopped_flushed text waits waits' old middle new empty w stopped = record {
  front = took_flushed text (at waits old) (at waits' middle) new.taken empty w stopped.front;
  later = omega (arith, w.later, stopped.later);
  rose = let h : old.faults ≤ middle.faults = w.later in let k : min (middle.faults + 1) (2 ^ 64 - 1) ≤ new.faults = stopped.rose in omega arith;
}

-- a write failed while a text was put where nothing waited
pub stopped_put : (text waits waits' : List ℕ) (old new : SinkView) → waits ≡ [] → Broke text (at waits old) (at waits' new) → Stopped text old new
stopped_put text waits waits' old new empty b = record {
  front = subst (λ (l : List ℕ). TookFront old.taken new.taken (l ++ text)) empty b.front;
  later = b.later;
  rose = b.rose;
}

-- a text was written to a sink
pub writes_text : {T E : Type 0} (r : Result T E) (text : List ℕ) (old new : SinkView) → OnOk r (Grew text old new) → OnErr r (Stopped text old new) → Writes text old new r
writes_text (Ok x) text old new ok err = record { whole = gained-nil new.taken ∙ ok.taken; front = took_all text old.taken new.taken ok.taken; later = ok.later }
writes_text (Err x) text old new ok err = record { front = err.front; later = err.later; rose = err.rose }

-- then a front of it was taken, and all of it where no write failed
pub front_of : {T E : Type 0} (r : Result T E) (text : List ℕ) (old new : SinkView) → Writes text old new r → TookFront old.taken new.taken text
front_of (Ok x) text old new h = h.front
front_of (Err x) text old new h = h.front

pub later_of : {T E : Type 0} (r : Result T E) (text : List ℕ) (old new : SinkView) → Writes text old new r → old.faults ≤ new.faults
later_of (Ok x) text old new h = h.later
later_of (Err x) text old new h = h.later

pub whole_of : {T E : Type 0} (r : Result T E) (text : List ℕ) (old new : SinkView) → Writes text old new r → ¬ Rose old.faults new.faults → new.taken ≡ gained text old.taken
whole_of (Ok x) text old new h quiet = sym (gained-nil new.taken) ∙ h.whole
whole_of (Err x) text old new h quiet = absurd (quiet h.rose)

-- of nothing, nothing is taken
pub took_nothing : (old new : Option (List ℕ)) → TookFront old new [] → new ≡ old
took_nothing old new (n, first) = first ∙ ap (λ l. gained l old) (take-nil n) ∙ gained-nil old

-- a text that is put is that of every name it has
pub puts_same : {T E : Type 0} (r : Result T E) (text line : List ℕ) (s t : At) → line ≡ text → Puts text s t r → Puts line s t r
puts_same r text line s t e h = subst (λ (l : List ℕ). Puts l s t r) (sym e) h

-- the line of an answer was written
pub tells : {T E : Type 0} (answer : Status) (r : Result T E) (old new : SinkView) → Writes (line answer) old new r → Tells answer old new
tells answer r old new h = record {
  whole = whole_of r (line answer) old new h;
  front = front_of r (line answer) old new h;
  later = later_of r (line answer) old new h;
  silent = λ e. took_nothing old.taken new.taken (subst (λ (s : Status). TookFront old.taken new.taken (line s)) e (front_of r (line answer) old new h));
}
