-- What a program that passes the checks of names and sizes keeps.
use Rattle.std.proofs.Common.{◌≡◌, ℕ, ◌≤◌, ℤ, pos, negsuc, Bool, true, false, ◌||◌, nat_lt, if◌then◌else◌, List, [], ◌∷◌, ◌++◌, length, map, flat_map, sum, Option, Some, None, refl, sym, ap, subst, ◌∙◌, arith}
use Rattle.std.proofs.lemmas.Bool.{ltb-false}
use Rattle.domino_tree.specs.declared.program.Item.{Item}
use Rattle.domino_tree.specs.declared.program.Item.TheVariants as item
use Rattle.domino_tree.specs.declared.program.Program.{Program}
use Rattle.domino_tree.specs.Value.{Defined, Array, names_of, size_value}
use Rattle.mp5_words.specs.Cells.{natural}
use Rattle.domino_names.specs.declared.fault.CheckFault.TheVariants as fault
use Rattle.domino_names.specs.declared.fault.What.TheVariants as what
use Rattle.domino_names.specs.declared.infos.ArrayInfo.{ArrayInfo}
use Rattle.domino_names.specs.First.{NoFault}
use Rattle.domino_names.specs.Checks.{bad_of, BadLengthAt, NoBadLength, NoTooMany, NoTwice}
use Rattle.domino_names.specs.Infos.{item_info, infos_of, array_of}
use Rattle.domino_check.specs.Accepted.{AreSized, Keeps}
use Rattle.std.proofs.lemmas.List.FromFn.{length-map-range_with_len}
use Rattle.domino_check.specs.declared.numbered.CheckedExpr.{CheckedExpr}
use Rattle.domino_check.specs.Numbering.{Access}
use Rattle.domino_check.specs.Numbering.{accesses}
use Rattle.domino_check.specs.Indexes.{AreBelow, AllKeep, index_of, indexes_of}
use Rattle.domino_check.specs.Sites.{program_indexes}
use Rattle.domino_names.specs.NamesRefused.{PassesNames, PassesSizes}
use Rattle.domino_names.specs.Symbols.{Named, Numbers, HasNumbers, StandFor, IsScope, names_from, symbols_of}
use Rattle.domino_check.proofs.BelowLemmas.{accesses_below}
use Rattle.domino_names.proofs.InfoLemmas.{infos_are, length-infos}
use Rattle.domino_names.proofs.OnceLemmas.{defines_of_program, names_are, stand_for}

-- ---- counts

not_more : (n m : ℕ) → (nat_lt n m ≡ true → ⊥) → m ≤ n
not_more n m h = by (nat_lt n m) refl
  where
    by : (b : Bool) → nat_lt n m ≡ b → m ≤ n
    by true e = absurd (h e)
    by false e = ltb-false n m e

pub few_fields_of : (p : Program) → NoTooMany p → length p.packet.fields ≤ 32
few_fields_of p few = not_more 32 (length p.packet.fields) (λ h. few (what.Defines ∷ []) what.Fields (what.Arrays ∷ what.Cells ∷ []) _ refl (h, refl))

pub few_arrays_of : (p : Program) → NoTooMany p → length (infos_of p) ≤ 16
few_arrays_of p few =
    let h : length (names_of p).arrays ≤ 16 = not_more 16 (length (names_of p).arrays) (λ h. few (what.Defines ∷ what.Fields ∷ []) what.Arrays (what.Cells ∷ []) _ refl (h, refl)) in
    omega (arith, length-infos p, h)

lengths_kept : (infos : List ArrayInfo) → map (λ (d : Array). d.length) (map array_of infos) ≡ map (λ (i : ArrayInfo). i.length) infos
lengths_kept [] = refl
lengths_kept (i ∷ infos) = ap (λ l. i.length ∷ l) (lengths_kept infos)

few_cells_of : (p : Program) → NoTooMany p → sum (map (λ (i : ArrayInfo). i.length) (infos_of p)) ≤ 262144
few_cells_of p few =
    let counted : sum (map (λ (d : Array). d.length) (names_of p).arrays) ≤ 262144 =
    not_more 262144 (sum (map (λ (d : Array). d.length) (names_of p).arrays)) (λ h. few (what.Defines ∷ what.Fields ∷ what.Arrays ∷ []) what.Cells [] _ refl (h, refl)) in
    subst (λ n. n ≤ 262144) (ap sum (sym (ap (map (λ (d : Array). d.length)) (infos_are p)) ∙ lengths_kept (infos_of p))) counted

-- ---- lengths

good_length : (z : ℤ) → ((m : ℤ) → bad_of z ≡ Some m → ⊥) → (1 ≤ natural z) × (natural z ≤ 65536)
good_length (negsuc k) h = absurd (h (negsuc k) refl)
good_length (pos k) h = by (nat_lt k 1) (nat_lt 65536 k) refl refl
  where
    by : (a b : Bool) → nat_lt k 1 ≡ a → nat_lt 65536 k ≡ b → (1 ≤ k) × (k ≤ 65536)
    by true b one two = absurd (h (pos k) (ap (λ t. if t || nat_lt 65536 k then Some (pos k) else None) one))
    by false true one two = absurd (h (pos k) ((λ i. if one i || two i then Some (pos k) else None)))
    by false false one two = (ltb-false k 1 one, ltb-false 65536 k two)

sized_in : (defines : List Defined) (items : List Item) → NoFault (BadLengthAt defines) items → AreSized (flat_map (item_info defines) items)
sized_in defines [] fine = tt
sized_in defines (item.Define name value ∷ items) fine =
    sized_in defines items (λ before x after g is a. fine (item.Define name value ∷ before) x after g (ap (λ (l : List Item). item.Define name value ∷ l) is) a)
sized_in defines (item.Array name None start ∷ items) fine = (
  (omega arith, omega arith),
  sized_in defines items (λ before x after g is a. fine (item.Array name None start ∷ before) x after g (ap (λ (l : List Item). item.Array name None start ∷ l) is) a),
)
sized_in defines (item.Array name (Some s) start ∷ items) fine = (
  good_length (size_value defines s) (λ m is. fine [] (item.Array name (Some s) start) items (fault.BadLength name m) refl (m, is, refl)),
  sized_in defines items (λ before x after g is a. fine (item.Array name (Some s) start ∷ before) x after g (ap (λ (l : List Item). item.Array name (Some s) start ∷ l) is) a),
)

pub sized_of : (p : Program) → NoBadLength p → AreSized (infos_of p)
sized_of p fine = sized_in (names_of p).defines (p.before ++ p.after) fine

-- ---- what was computed from the program

module _ (p : Program) (infos : List ArrayInfo) (is : infos ≡ infos_of p) where
  arrays_is : map array_of infos ≡ (names_of p).arrays
  arrays_is = ap (map array_of) is ∙ infos_are p

  count_is : length infos ≡ length (names_of p).arrays
  count_is = ap length is ∙ length-infos p

  pub below_of : (xs : List Access) → xs ≡ accesses p → PassesNames p → AreBelow (length infos) xs
  below_of xs x passes = subst (AreBelow (length infos)) (sym x) (subst (λ (n : ℕ). AreBelow n (accesses p)) (sym count_is) (accesses_below p passes))

  pub accesses_of : (P : List Array → List Access → Type 0) (xs : List Access) → xs ≡ accesses p → P (map array_of infos) xs → P (names_of p).arrays (accesses p)
  accesses_of P xs x h = subst (P (names_of p).arrays) x (subst (λ (arrays : List Array). P arrays xs) arrays_is h)

  pub table_of : (xs : List Access) (table : List (Option CheckedExpr)) → xs ≡ accesses p → table ≡ indexes_of xs (length infos) → table ≡ program_indexes p
  table_of xs table x t = t ∙ (λ i. indexes_of (x i) (count_is i))

  pub same_length : (table : List (Option CheckedExpr)) → table ≡ program_indexes p → length table ≡ length infos
  same_length table t = ap length t ∙ length-map-range_with_len (index_of (accesses p)) 0 (length (names_of p).arrays) ∙ sym count_is

  pub sites_at : (P : List Array → List (Option CheckedExpr) → Type 0) (table : List (Option CheckedExpr)) → table ≡ program_indexes p → P (map array_of infos) table → P (names_of p).arrays (program_indexes p)
  sites_at P table t h = subst (P (names_of p).arrays) t (subst (λ (arrays : List Array). P arrays table) arrays_is h)

-- the program keeps what its checks say
pub keeps_of : (p : Program) (xs : List Access) → xs ≡ accesses p → PassesSizes p → AllKeep (index_of xs) xs → Keeps p
keeps_of p xs x sizes kept = record {
  few_fields = few_fields_of p sizes.few;
  few = few_arrays_of p sizes.few;
  few_cells = few_cells_of p sizes.few;
  sized = sized_of p sizes.lengths;
  indexed = subst (λ (l : List Access). AllKeep (index_of l) l) x kept;
}

-- the table of a program, with its fields and arrays, says what its names do
pub scope_of : (p : Program) (ds : List Named) (fields : List (List ℕ)) (infos : List ArrayInfo) → ds ≡ symbols_of p → fields ≡ p.packet.fields → infos ≡ infos_of p
    → NoTwice p → length p.packet.fields ≤ 32 → length infos ≤ 16 → IsScope ds fields infos
scope_of p ds fields infos d f i once few_fields few_arrays =
    subst (λ (l : List Named). IsScope l fields infos) (sym d)
    (subst (λ (l : List (List ℕ)). IsScope (symbols_of p) l infos) (sym f)
    (record {
      few_fields = few_fields;
      few_arrays = few_arrays;
      stand = subst (StandFor (symbols_of p)) (sym (names_are p infos i)) (stand_for p once);
    }))

pub scope_is : (p : Program) (ds : List Named) (fields : List (List ℕ)) (infos : List ArrayInfo) → ds ≡ symbols_of p → fields ≡ p.packet.fields → infos ≡ infos_of p
    → names_from ds fields infos ≡ names_of p
scope_is p ds fields infos d f i = (λ j. names_from (d j) (f j) infos) ∙ names_are p infos i

-- it has the numbers of the defined names
pub numbers_of : (p : Program) (ds : List Named) → ds ≡ symbols_of p → NoTwice p → HasNumbers ds p
numbers_of p ds is once =
    subst (λ (l : List Named). HasNumbers l p) (sym is)
    (record {
      numbered = subst (Numbers (symbols_of p)) (sym (defines_of_program p)) (stand_for p once).defines;
      defines = defines_of_program p;
    })
