-- Each step of a lane keeps the rule.
use Rattle.std.proofs.Common.{◌≡◌, ◌≢◌, ℕ, Bool, suc, true, false, true≢false, List, [], ◌∷◌, ◌++◌, map, length, set, sym, refl, ap, ◌∙◌, subst, ⊎_elim, append_assoc}
use mathlib.Core.Option.{some, some-ne-none}
use lib.ListN.{get_elem?}
use Rattle.std.specs.declared.snapshot.Snapshot.{Snapshot}
use Rattle.crossbeam_queue.specs.Fifo.{Pushes, Pops, Forks, Learns}
use Rattle.crossbeam_queue.proofs.Lists.{at_snoc}
use Rattle.pair_lane.specs.declared.rule.Slip.{Slip}
use Rattle.pair_lane.specs.declared.rule.Slip.TheVariants.{Opening, Item}
use Rattle.pair_lane.specs.declared.rule.Known.{Known}
use Rattle.pair_lane.specs.Rule.{both_ends, fresh, sending_end, receiving_end, items_in, Lie, History, Knows, Laned, HasOpened, HasUnlocked, HasSent, HasReceived, IsEmpty, HoldsKey, Wait}
use Rattle.pair_lane.proofs.ListLemmas.{head_same, tail_same, not_empty, cut, at_end, each_set}

module _ {T K : Type 0} where
  -- ---- what lies in the queue

  pub items_in-snoc : (slips : List (Slip T K)) (x : T) → items_in (slips ++ Item x ∷ []) ≡ items_in slips ++ x ∷ []
  items_in-snoc [] x = refl
  items_in-snoc (Opening key ∷ slips) x = items_in-snoc slips x
  items_in-snoc (Item y ∷ slips) x = ap (λ l. y ∷ l) (items_in-snoc slips x)

  -- these items, as they lie in the queue
  abbrev lying : List T → List (Slip T K)
  lying xs = map (λ (x : T). Item x) xs

  lying-snoc : (xs : List T) (x : T) → lying (xs ++ x ∷ []) ≡ lying xs ++ Item x ∷ []
  lying-snoc [] x = refl
  lying-snoc (y ∷ ys) x = ap (λ (l : List (Slip T K)). Item y ∷ l) (lying-snoc ys x)

  -- items alone lie there after an item more
  items_more : (slips : List (Slip T K)) (x : T) → slips ≡ lying (items_in slips) → slips ++ Item x ∷ [] ≡ lying (items_in (slips ++ Item x ∷ []))
  items_more slips x e = ap (λ l. l ++ Item x ∷ []) e ∙ sym (lying-snoc (items_in slips) x) ∙ ap lying (sym (items_in-snoc slips x))

  -- as many slips as items
  items_long : (slips : List (Slip T K)) → slips ≡ lying (items_in slips) → length (items_in slips) ≡ length slips
  items_long slips e = sym (length-lying (items_in slips)) ∙ ap length (sym e) where
    length-lying : (xs : List T) → length (lying xs) ≡ length xs
    length-lying [] = refl
    length-lying (x ∷ xs) = ap suc (length-lying xs)

  abbrev is_item : Slip T K → Bool
  is_item (Opening key) = false
  is_item (Item x) = true

  abbrev first_is_item : List (Slip T K) → Bool
  first_is_item [] = false
  first_is_item (slip ∷ slips) = is_item slip

  -- no key lies before items alone
  no_opening : (s : Snapshot K) (slips : List (Slip T K)) (xs : List T) → Opening s ∷ slips ≡ lying xs → ⊥
  no_opening s slips [] e = not_empty [] slips (Opening s) (sym e)
  no_opening s slips (x ∷ xs) e = true≢false (sym (ap first_is_item e))

  -- what is first among items alone is an item, and items alone lie behind it
  first_item : (slip : Slip T K) (slips : List (Slip T K)) → slip ∷ slips ≡ lying (items_in (slip ∷ slips))
      → (x : T) × (slip ≡ Item x) × (slips ≡ lying (items_in slips))
  first_item (Opening s) slips e = absurd (no_opening s slips (items_in slips) e)
  first_item (Item x) slips e = (x, refl, tail_same (Item x) (Item x) slips (lying (items_in slips)) e)

  -- ---- the steps

  module _ (fits : K → List T → T → Type 0) where
    abbrev unused : History T K
    unused = record { keys = []; opened = false; writer = 0; reader = 0; sent = []; got = [] }

    pub begins : Laned fits [] (fresh ∷ [])
    begins = record {
      history = unused;
      lie = refl;
      flow = refl;
      fit = λ key earlier later x has e. absurd (not_empty [] [] key has);
      known = each_set (Knows unused) (fresh ∷ []) 0 fresh ((λ _. (refl, refl, refl, refl)), λ _. (refl, refl, refl, refl))
          (λ j u other e. absurd (other (at_end [] fresh u j (λ x. some-ne-none u (sym x)) e)));
    }

    -- a view that neither sends nor receives at another place knows nothing
    others_know : (h h' : History T K) (port : ℕ) → h.writer ≡ port → h.reader ≡ port → (j : ℕ) (u : Known T K) → j ≢ port → Knows h j u → Knows h' j u
    others_know h h' port w r j u other k = ((λ s. absurd (other ((k.0 s).0 ∙ w))), λ s. absurd (other ((k.1 s).0 ∙ r)))

    pub opens : (n port : ℕ) (v : Known T K) (s : Snapshot K) → v ≡ fresh → Pushes (Laned fits) n port v (Opening s) (HasOpened (Opening s))
    opens n port v s is items views room h at =
        let mine = h.known port v at in
        let sends : v.sends ≡ true = ap (λ (u : Known T K). u.sends) is in
        let receives : v.receives ≡ true = ap (λ (u : Known T K). u.receives) is in
        let no_keys : h.history.keys ≡ [] = sym (mine.0 sends).1 ∙ ap (λ (u : Known T K). u.keys) is in
        let closed : h.history.opened ≡ false = sym (mine.0 sends).2 ∙ ap (λ (u : Known T K). u.opened) is in
        let none_sent : h.history.sent ≡ [] = sym (mine.0 sends).3 ∙ ap (λ (u : Known T K). u.sent) is in
        let none_got : h.history.got ≡ [] = sym (mine.1 receives).3 ∙ ap (λ (u : Known T K). u.got) is in
        let empty : items ≡ [] = subst (λ (o : Bool × List K). Lie o.0 o.1 items) (λ i. (closed i, no_keys i)) h.lie in
        let w : Known T K = both_ends (s.value ∷ []) false in
        let next : History T K = record { keys = s.value ∷ []; opened = false; writer = port; reader = port; sent = []; got = [] } in (
          w,
          record {
            history = next;
            lie = (s, ap (λ l. l ++ Opening s ∷ []) empty);
            flow = sym (ap (λ l. items_in (l ++ Opening s ∷ [])) empty);
            fit = λ key earlier later x has e. absurd (not_empty earlier later x e);
            known = each_set (Knows next) views port w ((λ _. (refl, refl, refl, refl)), λ _. (refl, refl, refl, refl))
                (λ j u other e. others_know h.history next port (sym (mine.0 sends).0) (sym (mine.1 receives).0) j u other (h.known j u e));
          },
          (s, refl, refl),
        )

    -- a queue under a fresh view is empty
    pub finds_room : (port : ℕ) (v : Known T K) → v ≡ fresh → Learns (Laned fits) port v IsEmpty
    finds_room port v is items views h at =
        let mine = h.known port v at in
        let sends : v.sends ≡ true = ap (λ (u : Known T K). u.sends) is in
        let no_keys : h.history.keys ≡ [] = sym (mine.0 sends).1 ∙ ap (λ (u : Known T K). u.keys) is in
        let closed : h.history.opened ≡ false = sym (mine.0 sends).2 ∙ ap (λ (u : Known T K). u.opened) is in
        subst (λ (o : Bool × List K). Lie o.0 o.1 items) (λ i. (closed i, no_keys i)) h.lie

    pub unlocks : (port : ℕ) (v : Known T K) (key : K) → v ≡ both_ends (key ∷ []) false → Pops (Laned fits) port v (λ slip w. HasUnlocked v w)
    unlocks port v key is slip items views h at =
        let mine = h.known port v at in
        let sends : v.sends ≡ true = ap (λ (u : Known T K). u.sends) is in
        let receives : v.receives ≡ true = ap (λ (u : Known T K). u.receives) is in
        let has_key : h.history.keys ≡ key ∷ [] = sym (mine.0 sends).1 ∙ ap (λ (u : Known T K). u.keys) is in
        let closed : h.history.opened ≡ false = sym (mine.0 sends).2 ∙ ap (λ (u : Known T K). u.opened) is in
        let lies : Lie false (key ∷ []) (slip ∷ items) = subst (λ (o : Bool × List K). Lie o.0 o.1 (slip ∷ items)) (λ i. (closed i, has_key i)) h.lie in
        let empty : items ≡ [] = tail_same slip (Opening lies.0) items [] lies.1 in
        let w : Known T K = both_ends v.keys true in
        let next : History T K = record { keys = v.keys; opened = true; writer = port; reader = port; sent = []; got = [] } in (
          w,
          record {
            history = next;
            lie = empty ∙ ap (λ l. lying (items_in l)) (sym empty);
            flow = sym (ap items_in empty);
            fit = λ k earlier later x has e. absurd (not_empty earlier later x e);
            known = each_set (Knows next) views port w ((λ _. (refl, refl, refl, refl)), λ _. (refl, refl, refl, refl))
                (λ j u other e. others_know h.history next port (sym (mine.0 sends).0) (sym (mine.1 receives).0) j u other (h.known j u e));
          },
          refl,
        )

    -- the key lies in a queue that was opened and not unlocked
    pub finds_key : (port : ℕ) (v : Known T K) (key : K) → v ≡ both_ends (key ∷ []) false → Learns (Laned fits) port v HoldsKey
    finds_key port v key is items views h at =
        let mine = h.known port v at in
        let sends : v.sends ≡ true = ap (λ (u : Known T K). u.sends) is in
        let has_key : h.history.keys ≡ key ∷ [] = sym (mine.0 sends).1 ∙ ap (λ (u : Known T K). u.keys) is in
        let closed : h.history.opened ≡ false = sym (mine.0 sends).2 ∙ ap (λ (u : Known T K). u.opened) is in
        let lies : Lie false (key ∷ []) items = subst (λ (o : Bool × List K). Lie o.0 o.1 items) (λ i. (closed i, has_key i)) h.lie in
        ap length lies.1

    pub parts : (port : ℕ) (v : Known T K) (key : K) → v ≡ both_ends (key ∷ []) true
        → Forks (Laned fits) port v (sending_end v.keys v.sent) (receiving_end v.keys v.got)
    parts port v key is items views h at =
        let mine = h.known port v at in
        let sends : v.sends ≡ true = ap (λ (u : Known T K). u.sends) is in
        let receives : v.receives ≡ true = ap (λ (u : Known T K). u.receives) is in
        let open_now : true ≡ h.history.opened = sym (ap (λ (u : Known T K). u.opened) is) ∙ (mine.0 sends).2 in
        let left : Known T K = sending_end v.keys v.sent in
        let right : Known T K = receiving_end v.keys v.got in
        let vs : List (Known T K) = set views port left in
        let next : History T K = record { keys = h.history.keys; opened = h.history.opened; writer = port; reader = length vs; sent = h.history.sent; got = h.history.got } in
        let Sending : ℕ → Known T K → Type 0 = λ j u. (u.sends ≡ true → (j ≡ port) × (u.keys ≡ h.history.keys) × (u.opened ≡ h.history.opened) × (u.sent ≡ h.history.sent)) × (u.receives ≡ true → ⊥) in
        let old : (j : ℕ) (u : Known T K) → get_elem? vs j ≡ some u → Sending j u =
        each_set Sending views port left ((λ _. (refl, (mine.0 sends).1, open_now, (mine.0 sends).3)), λ p. true≢false (sym p))
        (λ j u other e. let theirs = h.known j u e in ((λ s. absurd (other ((theirs.0 s).0 ∙ sym (mine.0 sends).0))), λ r. other ((theirs.1 r).0 ∙ sym (mine.1 receives).0))) in
        record {
          history = next;
          lie = h.lie;
          flow = h.flow;
          fit = h.fit;
          known = λ j u e. ⊎_elim (λ there. ((old j u there).0, λ r. absurd ((old j u there).1 r)))
              (λ (same : right ≡ u). (
                (λ s. absurd (true≢false (sym (ap (λ (y : Known T K). y.sends) same ∙ s)))),
                λ r. (
                  at_end vs right u j (λ there. (old j u there).1 r) e,
                  ap (λ (y : Known T K). y.keys) (sym same) ∙ (mine.1 receives).1,
                  ap (λ (y : Known T K). y.opened) (sym same) ∙ open_now,
                  ap (λ (y : Known T K). y.got) (sym same) ∙ (mine.1 receives).3,
                ),
              )) (at_snoc vs right u j e);
        }

    pub sends : (n port : ℕ) (v : Known T K) (key : K) (x : T) → v ≡ sending_end (key ∷ []) v.sent → fits key v.sent x
        → Pushes (Laned fits) n port v (Item x) (HasSent v (Item x))
    sends n port v key x is fit items views room h at =
        let mine = h.known port v at in
        let writes : v.sends ≡ true = ap (λ (u : Known T K). u.sends) is in
        let has_key : h.history.keys ≡ key ∷ [] = sym (mine.0 writes).1 ∙ ap (λ (u : Known T K). u.keys) is in
        let is_open : h.history.opened ≡ true = sym (mine.0 writes).2 ∙ ap (λ (u : Known T K). u.opened) is in
        let all_sent : v.sent ≡ h.history.sent = (mine.0 writes).3 in
        let now : List T = v.sent ++ x ∷ [] in
        let w : Known T K = sending_end v.keys now in
        let next : History T K = record { keys = h.history.keys; opened = true; writer = h.history.writer; reader = h.history.reader; sent = now; got = h.history.got } in
        let lies : items ≡ lying (items_in items) = subst (λ o. Lie o h.history.keys items) is_open h.lie in (
          w,
          record {
            history = next;
            lie = items_more items x lies;
            flow = ap (λ l. l ++ x ∷ []) (all_sent ∙ h.flow) ∙ append_assoc h.history.got (items_in items) (x ∷ []) ∙ ap (λ l. h.history.got ++ l) (sym (items_in-snoc items x));
            fit = λ k earlier later y has e. ⊎_elim
                (λ last. subst (λ (z : K × List T × T). fits z.0 z.1 z.2) (λ i. (sym (head_same k key [] [] (sym has ∙ has_key)) i, sym last.0 i, sym last.1 i)) fit)
                (λ within. h.fit k earlier within.0 y has (sym all_sent ∙ within.1)) (cut v.sent earlier later x y e);
            known = each_set (Knows next) views port w
                ((λ _. ((mine.0 writes).0, (mine.0 writes).1, refl, refl)), λ r. absurd (true≢false (sym r)))
                (λ j u other e. let theirs = h.known j u e in (
                  (λ s. absurd (other ((theirs.0 s).0 ∙ sym (mine.0 writes).0))),
                  λ r. ((theirs.1 r).0, (theirs.1 r).1, (theirs.1 r).2 ∙ is_open, (theirs.1 r).3),
                ));
          },
          (x, refl, refl),
        )

    pub waits : (port : ℕ) (v : Known T K) (key : K) → v ≡ sending_end (key ∷ []) v.sent → Learns (Laned fits) port v (Wait v.sent)
    waits port v key is items views h at =
        let mine = h.known port v at in
        let writes : v.sends ≡ true = ap (λ (u : Known T K). u.sends) is in
        let is_open : h.history.opened ≡ true = sym (mine.0 writes).2 ∙ ap (λ (u : Known T K). u.opened) is in
        let lies : items ≡ lying (items_in items) = subst (λ o. Lie o h.history.keys items) is_open h.lie in
        (h.history.got, items_in items, (mine.0 writes).3 ∙ h.flow, items_long items lies)

    pub receives : (port : ℕ) (v : Known T K) (key : K) → v ≡ receiving_end (key ∷ []) v.got → Pops (Laned fits) port v (HasReceived fits v)
    receives port v key is slip items views h at =
        let mine = h.known port v at in
        let reads : v.receives ≡ true = ap (λ (u : Known T K). u.receives) is in
        let is_open : h.history.opened ≡ true = sym (mine.1 reads).2 ∙ ap (λ (u : Known T K). u.opened) is in
        let all_got : v.got ≡ h.history.got = (mine.1 reads).3 in
        let lies : slip ∷ items ≡ lying (items_in (slip ∷ items)) = subst (λ o. Lie o h.history.keys (slip ∷ items)) is_open h.lie in
        let first = first_item slip items lies in
        let x : T = first.0 in
        let now : List T = v.got ++ x ∷ [] in
        let w : Known T K = receiving_end v.keys now in
        let next : History T K = record { keys = h.history.keys; opened = true; writer = h.history.writer; reader = h.history.reader; sent = h.history.sent; got = now } in
        let flow : h.history.sent ≡ v.got ++ x ∷ items_in items = h.flow ∙ ap (λ l. l ++ items_in (slip ∷ items)) (sym all_got) ∙ ap (λ s. v.got ++ items_in (s ∷ items)) first.1 in (
          w,
          record {
            history = next;
            lie = first.2;
            flow = flow ∙ sym (append_assoc v.got (x ∷ []) (items_in items));
            fit = h.fit;
            known = each_set (Knows next) views port w
                ((λ s. absurd (true≢false (sym s))), λ _. ((mine.1 reads).0, (mine.1 reads).1, refl, refl))
                (λ j u other e. let theirs = h.known j u e in (
                  (λ s. ((theirs.0 s).0, (theirs.0 s).1, (theirs.0 s).2 ∙ is_open, (theirs.0 s).3)),
                  λ r. absurd (other ((theirs.1 r).0 ∙ sym (mine.1 reads).0)),
                ));
          },
          (x, first.1, refl, λ k has. h.fit k v.got (items_in items) x (sym (mine.1 reads).1 ∙ has) flow),
        )
