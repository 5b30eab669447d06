-- One turn of the loop that reads a chain, and a statement at a depth.
use Rattle.std.proofs.Common.{◌≡◌, ℕ, zero, suc, true, false, refl, List, [], ◌∷◌, ◌++◌, None, Some, Ok, Err}
use Rattle.domino_tree.specs.declared.token.Token.{Token}
use Rattle.domino_tree.specs.declared.token.Keyword.TheVariants as keywords
use Rattle.domino_tree.specs.declared.program.Stmt.{Stmt}
use Rattle.domino_tree.specs.declared.program.Stmt.TheVariants as stmt
use Rattle.domino_tree.specs.declared.program.Arm.{Arm}
use Rattle.domino_syntax.specs.Parsers.{Parser, first, keyword, sees_keyword}
use Rattle.domino_syntax.specs.ReadingPrograms.{links, conditional, assignment, statement}

module _ (another : Parser Arm) (last : Parser (List Stmt)) (arms : List Arm) (tokens : List Token) where
  pub links_end : (n : ℕ) → sees_keyword keywords.Else (first tokens) ≡ false → links another last n arms tokens ≡ Ok (stmt.If arms None, tokens)
  unfolding links
  links_end zero sees = refl
  links_end (suc n) sees = rw sees

  pub links_full : (n : ℕ) → n ≡ 0 → links another last n arms tokens ≡ Ok (stmt.If arms None, tokens)
  unfolding links
  links_full n none = rw none

  module _ (n m : ℕ) (is_suc : n ≡ suc m) (sees : sees_keyword keywords.Else (first tokens) ≡ true) (rest : List Token) where
    pub else_refused : keyword keywords.Else tokens ≡ Err rest → links another last n arms tokens ≡ Err rest
    unfolding links
    else_refused read = rw (is_suc, sees, read)

    module _ (middle : List Token) (taken : keyword keywords.Else tokens ≡ Ok (tt, middle)) where
      pub last_refused : sees_keyword keywords.If (first middle) ≡ false → last middle ≡ Err rest → links another last n arms tokens ≡ Err rest
      unfolding links
      last_refused other read = rw (is_suc, sees, taken, other, read)

      pub last_read : (body : List Stmt) → sees_keyword keywords.If (first middle) ≡ false → last middle ≡ Ok (body, rest) → links another last n arms tokens ≡ Ok (stmt.If arms (Some body), rest)
      unfolding links
      last_read body other read = rw (is_suc, sees, taken, other, read)

      pub arm_refused : sees_keyword keywords.If (first middle) ≡ true → another middle ≡ Err rest → links another last n arms tokens ≡ Err rest
      unfolding links
      arm_refused again read = rw (is_suc, sees, taken, again, read)

      pub arm_read : (a : Arm) → sees_keyword keywords.If (first middle) ≡ true → another middle ≡ Ok (a, rest) → links another last n arms tokens ≡ links another last m (arms ++ a ∷ []) rest
      unfolding links
      arm_read a again read = rw (is_suc, sees, taken, again, read)

module _ (d m : ℕ) (is_suc : d ≡ suc m) (tokens : List Token) where
  pub statement_if : sees_keyword keywords.If (first tokens) ≡ true → statement d tokens ≡ conditional m (statement m) tokens
  unfolding statement
  statement_if sees = rw (is_suc, sees)

  pub statement_set : sees_keyword keywords.If (first tokens) ≡ false → statement d tokens ≡ assignment d tokens
  unfolding statement
  statement_set sees = rw (is_suc, sees)
