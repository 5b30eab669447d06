-- The values of a record where the IPv4 header is looked for only if a field wants it.
use Rattle.std.proofs.Common.{◌≡◌, ℕ, Bool, true, false, ℤ, List, [], ◌∷◌, map, refl, sym, ap, ap₂}
use Rattle.std.specs.List.{list_any}
use Rattle.std.proofs.lemmas.Bool.{or_parts}
use Rattle.capture_io.specs.declared.source.Source.{Source}
use Rattle.capture_io.specs.declared.source.Source.TheVariants.{Arrival, OriginalLength, Unfilled}
use Rattle.capture_io.specs.Fields.{is_in_packet}
use Rattle.capture_io.specs.Header.{value_in}

value-outside : (s : Source) (since : ℤ) (original : ℕ) (a b : List ℕ) → is_in_packet s ≡ false → value_in s since original a ≡ value_in s since original b
value-outside Arrival since original a b outside = refl
value-outside OriginalLength since original a b outside = refl
value-outside Unfilled since original a b outside = refl
value-outside s since original a b outside = absurd cc

values-outside : (sources : List Source) (since : ℤ) (original : ℕ) (a b : List ℕ) → list_any is_in_packet sources ≡ false → map (λ s. value_in s since original a) sources ≡ map (λ s. value_in s since original b) sources
values-outside [] since original a b outside = refl
values-outside (s ∷ sources) since original a b outside =
    let parts = or_parts (is_in_packet s) (list_any is_in_packet sources) outside in
    ap₂ ◌∷◌ (value-outside s since original a b parts.0) (values-outside sources since original a b parts.1)

-- the header's bytes matter only where a field wants them
pub values-same : (wanted : Bool) (sources : List Source) (since : ℤ) (original : ℕ) (a b : List ℕ) → wanted ≡ list_any is_in_packet sources → (wanted ≡ true → a ≡ b)
    → map (λ s. value_in s since original a) sources ≡ map (λ s. value_in s since original b) sources
values-same true sources since original a b is same = ap (λ (ip : List ℕ). map (λ s. value_in s since original ip) sources) (same refl)
values-same false sources since original a b is same = values-outside sources since original a b (sym is)
