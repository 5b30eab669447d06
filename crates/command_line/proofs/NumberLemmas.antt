-- What the number of an option is, from what a parse reads.
use Rattle.std.proofs.Common.{◌≡◌, ◌^◌, ◌<◌, ◌≤◌, nat_le, ℕ, Bool, cond, true, false, List, Option, None, Some, refl, sym, ap, arith, ◌∙◌}
use Rattle.std.specs.Option.{option_and_then}
use Rattle.std.proofs.lemmas.Bool.Decides.{nat_tests}
use Rattle.std.specs.Prelude.{Ok, Err, Result}
use Rattle.std.specs.Str.Parse.{IsNumeral, ParsesUnsigned, digits_value, without_leading_plus}
use Rattle.clap.specs.Matches.{ReadsOne}
use Rattle.clap.specs.ValueTests.{is_unsigned_in}
use Rattle.clap.specs.Words.{Text}
use Rattle.clap.specs.declared.builder.value_parser.ValueParser.TheVariants as parser
use Rattle.clap.proofs.ValueTestLemmas.{accepts-Accepts, Accepts-accepts}
use Rattle.command_line.specs.CommandLine.{number_in, number_of, is_plain, plain_number, up_to}

-- a text of a `u32` passes the test
passes : (text : Text) → IsNumeral 10 (without_leading_plus text) → digits_value 10 (without_leading_plus text) < 2 ^ 32 → is_unsigned_in 0 4294967295 text ≡ true
passes text numeral small = Accepts-accepts false (parser.Unsigned 0 4294967295) text (numeral, omega arith, omega arith, omega arith)

read_number : (E : Type 0) (G : List ℕ → Result ℕ E → Type 0) → ((u : List ℕ) (x : Result ℕ E) → G u x → ParsesUnsigned 32 10 u x)
    → (text : Text) (r : Option ℕ) → ReadsOne G text r → r ≡ number_of text
read_number E G only text (Some v) h =
    let parsed = only text (Ok v) h in
    ap (λ (n : ℕ). Some n) parsed.1 ∙ ap (λ (b : Bool). cond b (Some (digits_value 10 (without_leading_plus text))) None) (sym (passes text parsed.0.0 parsed.0.1))
read_number E G only text None h = go (is_unsigned_in 0 4294967295 text) refl
  where
    go : (b : Bool) → is_unsigned_in 0 4294967295 text ≡ b → ◌≡◌ {A = Option ℕ} None (cond b (Some (digits_value 10 (without_leading_plus text))) None)
    go false e = refl
    go true e =
        let taken = accepts-Accepts false (parser.Unsigned 0 4294967295) text e in
        absurd (only text (Err h.0) h.1 (taken.0, omega arith))

-- the number that a getter reads, of a text that may not be there
pub number_read : (E : Type 0) (G : List ℕ → Result ℕ E → Type 0) → ((u : List ℕ) (x : Result ℕ E) → G u x → ParsesUnsigned 32 10 u x)
    → (o : Option Text) (r : Option ℕ) → (o ≡ None → r ≡ None) → ((u : Text) → o ≡ Some u → ReadsOne G u r) → r ≡ number_in o
number_read E G only None r none some = none refl
number_read E G only (Some text) r none some = read_number E G only text r (some text refl)

-- ---- numbers without a sign and without a zero in front

-- the number that a parse gives, if it gives one
abbrev pub parsed : {E : Type 0} → Result ℕ E → Option ℕ
parsed (Ok n) = Some n
parsed (Err e) = None

-- what a parse gives is the number of the text
pub parsed_number : {E : Type 0} (text : Text) (r : Result ℕ E) → ParsesUnsigned 32 10 text r → parsed r ≡ number_of text
parsed_number text (Ok v) h =
    ap (λ (n : ℕ). Some n) h.1 ∙ ap (λ (b : Bool). cond b (Some (digits_value 10 (without_leading_plus text))) None) (sym (passes text h.0.0 h.0.1))
parsed_number {E = E} text (Err e) h = go (is_unsigned_in 0 4294967295 text) refl
  where
    go : (b : Bool) → is_unsigned_in 0 4294967295 text ≡ b → ◌≡◌ {A = Option ℕ} None (cond b (Some (digits_value 10 (without_leading_plus text))) None)
    go false is = refl
    go true is =
        let taken = accepts-Accepts false (parser.Unsigned 0 4294967295) text is in
        absurd (h (taken.0, omega arith))

-- the number of a plain text that is parsed
pub plain_is : {E : Type 0} (most : ℕ) (text : Text) (r : Result ℕ E) → ParsesUnsigned 32 10 text r → is_plain text ≡ true → option_and_then (up_to most) (parsed r) ≡ plain_number most text
plain_is most text r h plain =
    ap (option_and_then (up_to most)) (parsed_number text r h)
    ∙ sym (ap (λ (b : Bool). cond b (option_and_then (up_to most) (number_of text)) None) plain)

pub within : (most n : ℕ) → n ≤ most → up_to most n ≡ Some n
within most n le = let t : nat_le n most ≡ true = grind (arith, nat_tests, le) in ap (λ (b : Bool). cond b (Some n) None) t

pub past : (most n : ℕ) → most < n → up_to most n ≡ None
past most n less = let t : nat_le n most ≡ false = grind (arith, nat_tests, less) in ap (λ (b : Bool). cond b (Some n) None) t
