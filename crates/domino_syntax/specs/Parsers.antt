-- Parsers as functions on token lists. Each takes a form from the front of a list, and gives what it read
-- and the tokens after it, or refuses and gives the list from the refused token on. What it does depends on
-- the tokens that it takes and on the next one.
use Rattle.std.specs.Prelude.{◌≡◌, ℕ, ℤ, zero, suc, Bool, false, if◌then◌else◌, List, [], ◌∷◌, ◌++◌, length, Option, Some, None, Result, Ok, Err}
use Rattle.std.specs.Option.{is_some}
use denote.Enum.Bare.{sameb}
use Rattle.domino_tree.specs.contracts.token.Keyword.{the_type as keyword_type}
use Rattle.domino_tree.specs.Operators.{same_sign}
use Rattle.domino_tree.specs.declared.token.Token.{Token}
use Rattle.domino_tree.specs.declared.token.Token.TheVariants as token
use Rattle.domino_tree.specs.declared.token.Keyword.{Keyword}
use Rattle.domino_tree.specs.declared.token.Sign.{Sign}
use Rattle.domino_syntax.specs.declared.reader.Stop.{Stop}
use Rattle.domino_syntax.specs.declared.reader.Stop.TheVariants as stop

-- what was read and the tokens after it, or the list from the refused token on
abbrev pub Outcome : Type 0 → Type 0
Outcome A = Result (A × List Token) (List Token)

-- from a list, a form at its front
abbrev pub Parser : Type 0 → Type 0
Parser A = List Token → Outcome A

-- what a function that parses ensures: the parser's outcome, unless memory ran out
abbrev pub Reads : {A : Type 0} → Outcome A → Result A Stop → List Token → Type 0
Reads outcome (Ok x) new = outcome ≡ Ok (x, new)
Reads outcome (Err stop.Syntax) new = outcome ≡ Err new
Reads outcome (Err stop.NoMemory) new = Unit {0}

-- ---- the next token

-- the token at the front, where there is one
abbrev pub first : List Token → Option Token
first [] = None
first (t ∷ rest) = Some t

-- whether there is a next token and the test takes it
abbrev pub sees : {A : Type 0} → (Token → Option A) → Option Token → Bool
sees test None = false
sees test (Some t) = is_some (test t)

-- what is made of the token at the front, where the test took it
abbrev pub taken : {A : Type 0} → Option A → Token → Parser A
taken None t rest = Err (t ∷ rest)
taken (Some x) t rest = Ok (x, rest)

-- a token that the test takes
abbrev pub one : {A : Type 0} → (Token → Option A) → Parser A
one test [] = Err []
one test (t ∷ rest) = taken (test t) t rest

-- no token is left
abbrev pub end : Parser (Unit {0})
end [] = Ok (tt, [])
end (t ∷ rest) = Err (t ∷ rest)

-- ---- parsers in a row

-- what is read after a form, which may depend on it
abbrev pub and_then : {A B : Type 0} → Outcome A → (A → Parser B) → Outcome B
and_then (Ok p) f = f p.0 p.1
and_then (Err rest) f = Err rest

-- one form, and then another, which may depend on it
infixl 10 ◌>>=◌
abbrev pub ◌>>=◌ : {A B : Type 0} → Parser A → (A → Parser B) → Parser B
p >>= f = λ tokens. and_then (p tokens) f

-- one form, and then another
infixl 10 ◌>>◌
abbrev pub ◌>>◌ : {A B : Type 0} → Parser A → Parser B → Parser B
p >> q = p >>= (λ _. q)

-- takes no token
abbrev pub pure : {A : Type 0} → A → Parser A
pure x = λ tokens. Ok (x, tokens)

-- one form where the next token is one that begins it, else the other
abbrev pub choice : {A : Type 0} → (Option Token → Bool) → Parser A → Parser A → Parser A
choice begins p q = λ tokens. if begins (first tokens) then p tokens else q tokens

-- goes on from what was found, for as long as the next token says so; the number bounds how often
unfoldable pub repeat : {A : Type 0} → (A → Option Token → Bool) → (A → Parser A) → ℕ → A → Parser A
repeat begins step zero found tokens = Ok (found, tokens)
repeat begins step (suc n) found tokens =
    if begins found (first tokens) then and_then (step found tokens) (repeat begins step n) else Ok (found, tokens)

-- goes on from what was found, for as long as the next token says so: each step takes a token at least
abbrev pub going_on : {A : Type 0} → (A → Option Token → Bool) → (A → Parser A) → A → Parser A
going_on begins step found = λ tokens. repeat begins step (length tokens) found tokens

-- one form more
abbrev pub adding : {A : Type 0} → Parser A → List A → Parser (List A)
adding form found = form >>= (λ x. pure (found ++ x ∷ []))

-- all the forms of one kind
abbrev pub all_of : {A : Type 0} → (Option Token → Bool) → Parser A → Parser (List A)
all_of begins form = going_on (λ _. begins) (adding form) []

-- ---- one token

-- `==` on reserved names
abbrev pub same_keyword : Keyword → Keyword → Bool
same_keyword = sameb keyword_type

-- this sign
abbrev pub that_sign : Sign → Token → Option (Unit {0})
that_sign s (token.Name w) = None
that_sign s (token.Keyword k) = None
that_sign s token.Define = None
that_sign s (token.Number n) = None
that_sign s (token.Sign t) = if same_sign t s then Some tt else None

-- this reserved name
abbrev pub that_keyword : Keyword → Token → Option (Unit {0})
that_keyword k (token.Name w) = None
that_keyword k (token.Keyword l) = if same_keyword l k then Some tt else None
that_keyword k token.Define = None
that_keyword k (token.Number n) = None
that_keyword k (token.Sign s) = None

-- `#define`
abbrev pub a_define : Token → Option (Unit {0})
a_define (token.Name w) = None
a_define (token.Keyword k) = None
a_define token.Define = Some tt
a_define (token.Number n) = None
a_define (token.Sign s) = None

-- any name
abbrev pub a_name : Token → Option (List ℕ)
a_name (token.Name w) = Some w
a_name (token.Keyword k) = None
a_name token.Define = None
a_name (token.Number n) = None
a_name (token.Sign s) = None

-- any number
abbrev pub a_number : Token → Option ℤ
a_number (token.Name w) = None
a_number (token.Keyword k) = None
a_number token.Define = None
a_number (token.Number n) = Some n
a_number (token.Sign s) = None

unfoldable pub sign : Sign → Parser (Unit {0})
sign s = one (that_sign s)

unfoldable pub keyword : Keyword → Parser (Unit {0})
keyword k = one (that_keyword k)

unfoldable pub define : Parser (Unit {0})
define = one a_define

unfoldable pub name : Parser (List ℕ)
name = one a_name

unfoldable pub number : Parser ℤ
number = one a_number

-- whether the next token is this sign
abbrev pub sees_sign : Sign → Option Token → Bool
sees_sign s = sees (that_sign s)

-- whether the next token is this reserved name
abbrev pub sees_keyword : Keyword → Option Token → Bool
sees_keyword k = sees (that_keyword k)

-- whether the next token is `#define`
abbrev pub sees_define : Option Token → Bool
sees_define = sees a_define

-- whether the next token is a name
abbrev pub sees_name : Option Token → Bool
sees_name = sees a_name

-- whether the next token is a number
abbrev pub sees_number : Option Token → Bool
sees_number = sees a_number
