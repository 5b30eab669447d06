-- What a chain of steps that may refuse gave.
use Rattle.std.proofs.Common.{◌≡◌, Bool, true, false, cond, Result, Ok, Err, refl, ap, ◌⊎◌, inl, inr}
use Rattle.capture_io.specs.declared.fault.CaptureFault.{CaptureFault}
use Rattle.capture_io.specs.Reading.{◌>>=◌, map_ok}

-- the test that would have refused failed
pub past_refusal : {A : Type 0} (b : Bool) (f : CaptureFault) (r : Result A CaptureFault) (y : A) → cond b (Err f) r ≡ Ok y → (b ≡ false) × (r ≡ Ok y)
past_refusal true f r y e = absurd cc
past_refusal false f r y e = (refl, e)

-- both steps gave something
pub of_then : {A B : Type 0} (r : Result A CaptureFault) (f : A → Result B CaptureFault) (y : B) → (r >>= f) ≡ Ok y → (x : A) × (r ≡ Ok x) × (f x ≡ Ok y)
of_then (Ok x) f y e = (x, refl, e)
of_then (Err d) f y e = absurd cc

abbrev done : {A : Type 0} → A → Result A CaptureFault
done x = Ok x

abbrev refused : {A : Type 0} → CaptureFault → Result A CaptureFault
refused f = Err f

pub ok_is : {A : Type 0} (x y : A) → done x ≡ done y → x ≡ y
ok_is x y e = cc

pub err_is : {A : Type 0} (d f : CaptureFault) → refused {A = A} d ≡ refused {A = A} f → d ≡ f
err_is d f e = cc

-- the first step refused, or the second
pub refused_then : {A B : Type 0} (r : Result A CaptureFault) (f : A → Result B CaptureFault) (d : CaptureFault) → (r >>= f) ≡ Err d → (r ≡ Err d) ⊎ ((x : A) × (r ≡ Ok x) × (f x ≡ Err d))
refused_then (Ok x) f d e = inr (x, refl, e)
refused_then {B = B} (Err g) f d e = inl (ap (λ (x : CaptureFault). Err x) (err_is {A = B} g d e))

-- a step that only changes what was given refuses nothing
pub map_refused : {A B : Type 0} (f : A → B) (r : Result A CaptureFault) (d : CaptureFault) → map_ok f r ≡ Err d → r ≡ Err d
map_refused f (Ok x) d e = absurd cc
map_refused {B = B} f (Err g) d e = ap (λ (x : CaptureFault). Err x) (err_is {A = B} g d e)

pub map-same : {A : Type 0} (r : Result A CaptureFault) → map_ok (λ x. x) r ≡ r
map-same (Ok x) = refl
map-same (Err g) = refl

pub map-map : {A B C : Type 0} (f : B → C) (g : A → B) (r : Result A CaptureFault) → map_ok f (map_ok g r) ≡ map_ok (λ x. f (g x)) r
map-map f g (Ok x) = refl
map-map f g (Err d) = refl
