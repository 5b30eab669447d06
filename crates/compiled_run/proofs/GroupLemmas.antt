-- The groups of compiled code are groups of staged code.
use Rattle.std.proofs.Common.{◌≡◌, ℕ, zero, suc, ◌+◌, ◌*◌, ◌<◌, nat_le, true, List, [], ◌∷◌, length, sym, subst, arith}
use Rattle.std.specs.List.{list_all}
use Rattle.std.proofs.lemmas.Bool.Decides.{nat_tests}
use Rattle.domino_tree.specs.declared.program.Program.{Program}
use Rattle.code_forms.specs.declared.flat.FlatCode.{FlatCode}
use Rattle.code_forms.specs.declared.layout.Layout.{Layout}
use Rattle.code_forms.specs.declared.layout.Spot.{Spot}
use Rattle.code_forms.specs.declared.layout.Spot.TheVariants as spot
use Rattle.code_forms.specs.declared.parts.StagedParts.{StagedParts}
use Rattle.code_forms.specs.LayoutValid.{spot_fits}
use Rattle.code_forms.specs.Staged.{Staged, in_parts, IsGroup}
use Rattle.code_forms.proofs.ValidLemmas.{and_front, and_back}
use Rattle.flat_graph.specs.Layouts.{spot_at, part_of}
use Rattle.index_resolve.specs.Order.{part_at}
use Rattle.index_resolve.specs.Resolve.{IsPacked, ArePartsOf, part_count}
use Rattle.index_resolve.proofs.ResolveLemmas as resolved
use Rattle.index_resolve.proofs.StagedFacts.{is_group}
use Rattle.domino_compile.specs.Compiled.{IsCompiled}

-- a place of a layout is in one of its parts
part_low : (count : ℕ) (s : Spot) → spot_fits count s ≡ true → part_of s < 2 * count + 1
part_low count (spot.Group g) e = grind (arith, nat_tests, e)
part_low count (spot.Block b) e = grind (arith, nat_tests, e)

-- so is that of each instruction, also where there is none
fits_at : (count : ℕ) (spots : List Spot) (i : ℕ) → list_all (spot_fits count) spots ≡ true → spot_fits count (spot_at spots i) ≡ true
fits_at count [] i all = grind (arith, nat_tests)
fits_at count (s ∷ spots) zero all = and_front (spot_fits count s) _ all
fits_at count (s ∷ spots) (suc i) all = fits_at count spots i (and_back (spot_fits count s) _ all)

layout_low : (l : Layout) (i : ℕ) → part_at l.spot i < part_count l
layout_low l i = part_low (length l.arrays) (spot_at l.spot i) (fits_at (length l.arrays) l.spot i (and_front _ _ (and_back (nat_le (length l.arrays) 16) _ (and_back (nat_le (length l.spot) 1024) _ l.valid))))

-- the groups of code in the parts of its layout are groups of staged code
parts_group : (f : FlatCode) (l : Layout) (packed : IsPacked f l) (parts : StagedParts) (are : ArePartsOf f l parts) (g : ℕ) → g < length parts.groups → IsGroup (in_parts f parts) g
parts_group f l packed parts are g less =
    is_group (in_parts f parts) f.valid l.spot (part_count l) (λ i within. layout_low l i) packed.ordered are.order_is are.ends_are packed.layout.of packed.layout.wide (resolved.groups f l packed parts are)
    packed.layout.placed (resolved.arrays_are f l packed parts are) g less (are.shards g (omega (arith, less, are.count))).0

-- the groups of compiled code are groups of staged code
pub compiled_group : (p : Program) (c : Staged) → IsCompiled p c → (g : ℕ) → g < length c.groups → IsGroup c g
compiled_group p c is g less =
    let same : c ≡ in_parts is.made.flat is.made.resolved.0 = is.made.resolved.1 in
    subst (λ (s : Staged). IsGroup s g) (sym same)
    (parts_group is.made.flat is.made.layout is.made.packed is.made.resolved.0 is.made.resolved.2 g (subst (λ (s : Staged). g < length s.groups) same less))
