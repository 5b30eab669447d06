-- The entries of an answer, and the first array of a group.
use Rattle.std.proofs.Common.{◌≡◌, ◌∙◌, ◌<◌, ◌≤◌, ◌/◌, ◌%◌, ◌==◌, ◌||◌, nat_le, arith, ℕ, suc, ℤ, true, false, List, [], ◌∷◌, length, slice_index, ◌⊎◌, inl, inr, refl, sym, ap, ne_eqb}
use Rattle.domino_tree.specs.declared.program.Program.{Program}
use Rattle.std.specs.List.{list_any}
use Rattle.std.proofs.lemmas.Bool.{false≢true, cases_lt}
use Rattle.std.proofs.lemmas.Bool.Decides.{eqb_tells, nat_tests}
use Rattle.code_forms.specs.FlatValid.{ascends}
use Rattle.code_forms.specs.Staged.{Staged, Member}
use Rattle.code_forms.specs.StagedMeaning.{array_set}
use Rattle.code_forms.proofs.ValidLemmas.{and_front, and_back}
use Rattle.run_answer.proofs.CellsLemmas.{set_has, member_of}
use Rattle.report_text.specs.PlanLines.{in_set}
use Rattle.switch_net.specs.declared.answer.Answer.{Answer}
use Rattle.report_text.specs.AnswerLines.{entry_lines, packet_at, named_unit, serve_line, access_lines}

-- an entry of no pipe has no line
pub no-entry : (p : Program) (c : Staged) (a : Answer) (e : ℕ) → slice_index a.by.items e ≡ 255 → length (entry_lines p c a e) ≡ 0
no-entry p c a e is = ap (λ by. length (access_lines (e / length c.groups) (e % length c.groups) (named_unit p c (e % length c.groups) (packet_at (length p.packet.fields) a.packets.items (e / length c.groups))) by (slice_index a.touched.items e))) is

-- another one has the line of an access
pub one-access : (t g u by touched : ℕ) → (by ≡ 255 → ⊥) → access_lines t g u by touched ≡ serve_line t g u by touched ∷ []
one-access t g u by touched other = rw (ne_eqb by 255 other) refl

pub one-entry : (p : Program) (c : Staged) (a : Answer) (e : ℕ) → (slice_index a.by.items e ≡ 255 → ⊥) → length (entry_lines p c a e) ≡ 1
one-entry p c a e other =
    ap length (one-access (e / length c.groups) (e % length c.groups) (named_unit p c (e % length c.groups) (packet_at (length p.packet.fields) a.packets.items (e / length c.groups))) (slice_index a.by.items e) (slice_index a.touched.items e) other)

-- ---- the first array of a group

-- a member of ascending numbers isn't below their least
member-from : (n a : ℕ) (xs : List ℕ) → ascends n xs ≡ true → Member a xs → n ≤ a
member-from n a [] up m = absurd m
member-from n a (x ∷ xs) up m =
    let first : nat_le n x ≡ true = and_front (nat_le n x) _ up in
    let least : n ≤ x = grind (arith, nat_tests, first) in
    elim m [
      | inl is ↦ omega (arith, least, is)
      | inr rest ↦ (let later : suc x ≤ a = member-from (suc x) a xs (and_back (nat_le n x) _ up) rest in omega (arith, least, later))
    ]

-- the first of some arrays is among them
first-among : (arrays : List ℕ) → 0 < length arrays → list_any (λ x. x == slice_index arrays 0) arrays ≡ true
first-among [] some = absurd (omega (arith, some))
first-among (x ∷ xs) some = elim (eqb_tells x x) [
  | inl is ↦ ap (λ b. b || list_any (λ y. y == x) xs) is.0
  | inr other ↦ absurd (other.1 refl)
]

pub first-member : (arrays : List ℕ) → 0 < length arrays → Member (slice_index arrays 0) arrays
first-member [] some = absurd (omega (arith, some))
first-member (x ∷ xs) some = inl refl

-- and no later one is the least of them
first-least : (arrays : List ℕ) (a : ℕ) → ascends 0 arrays ≡ true → Member a arrays → slice_index arrays 0 ≤ a
first-least [] a up m = absurd m
first-least (x ∷ xs) a up m = elim m [
  | inl is ↦ omega (arith, is)
  | inr rest ↦ (let later : suc x ≤ a = member-from (suc x) a xs (and_back (nat_le 0 x) _ up) rest in omega (arith, later))
]

module _ (set : ℕ) (arrays : List ℕ) (is : set ≡ array_set arrays) (some : 0 < length arrays) (up : ascends 0 arrays ≡ true) where
  -- the first array is in the set
  first-in : slice_index arrays 0 < 16 → in_set set (slice_index arrays 0) ≡ true
  first-in low = set_has set arrays (slice_index arrays 0) is low ∙ first-among arrays some

  -- the least array of the set is the first one
  pub first-is : (a : ℕ) → a < 16 → in_set set a ≡ true → ((b : ℕ) → b < a → in_set set b ≡ false) → a ≡ slice_index arrays 0
  first-is a low has none =
      let le : slice_index arrays 0 ≤ a = first-least arrays a up (member_of arrays a (sym (set_has set arrays a is low) ∙ has)) in
      by (cases_lt (slice_index arrays 0) a)
    where
      by : (slice_index arrays 0 < a) ⊎ (a ≤ slice_index arrays 0) → a ≡ slice_index arrays 0
      by (inl less) = absurd (false≢true (sym (none (slice_index arrays 0) less) ∙ first-in (omega (arith, less, low))))
      by (inr ge) =
          let le : slice_index arrays 0 ≤ a = first-least arrays a up (member_of arrays a (sym (set_has set arrays a is low) ∙ has)) in
          omega (arith, ge, le)

  -- so some array below a limit that it doesn't reach is in the set
  pub none-below : (n : ℕ) → n ≤ 16 → slice_index arrays 0 < n → ((b : ℕ) → b < n → in_set set b ≡ false) → ⊥
  none-below n few less none = false≢true (sym (none (slice_index arrays 0) less) ∙ first-in (omega (arith, less, few)))

-- ---- an entry

-- the line of an access is that of the entry
pub entry-line : (p : Program) (c : Staged) (a : Answer) (e groups t g u width : ℕ) (fields : List ℤ) (text : List ℕ) → groups ≡ length c.groups → t ≡ e / groups → g ≡ e % groups → width ≡ length p.packet.fields
    → fields ≡ packet_at width a.packets.items t → u ≡ named_unit p c g fields → (slice_index a.by.items e ≡ 255 → ⊥) → text ≡ serve_line t g u (slice_index a.by.items e) (slice_index a.touched.items e)
    → entry_lines p c a e ≡ text ∷ []
entry-line p c a e groups t g u width fields text gs ts gis ws fs us other is =
    let t_is : e / length c.groups ≡ t = sym (ts ∙ ap (λ n. e / n) gs) in
    let g_is : e % length c.groups ≡ g = sym (gis ∙ ap (λ n. e % n) gs) in
    let u_is : named_unit p c (e % length c.groups) (packet_at (length p.packet.fields) a.packets.items (e / length c.groups)) ≡ u =
    (λ i. named_unit p c (g_is i) (packet_at (sym ws i) a.packets.items (t_is i))) ∙ ap (named_unit p c g) (sym fs) ∙ sym us
    in
    (λ i. access_lines (t_is i) (g_is i) (u_is i) (slice_index a.by.items e) (slice_index a.touched.items e))
    ∙ one-access t g u (slice_index a.by.items e) (slice_index a.touched.items e) other
    ∙ ap (λ l. l ∷ []) (sym is)
