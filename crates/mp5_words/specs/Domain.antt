-- Values of some kind with the operations of the language. What code means is said once, over any kind, and
-- three kinds are told apart: words, the arrays behind a value, and what a header alone tells of a value.
use Rattle.std.specs.Prelude.{ℕ, ℤ, pos, Bool, true, not, ◌&&◌, List, [], ◌∷◌, ◌++◌}
use Rattle.mp5_words.specs.declared.op.Op1.{Op1}
use Rattle.mp5_words.specs.declared.op.Op2.{Op2}
use Rattle.mp5_words.specs.declared.hashing.HashKind.{HashKind}
use Rattle.mp5_words.specs.Words.{op1, op2, truth, flag, hash, cell}
use Rattle.mp5_words.specs.Cells.{picked, natural}

-- all that the value of an expression needs
pub record Ops (V : Type 0) : Type 0 where
  pub number : ℤ → V
  pub one : Op1 → V → V
  pub two : Op2 → V → V → V
  pub pick : V → V → V → V
  pub hash : HashKind → V → V → V → V

-- a guard under which a condition holds, and one under which it fails; an array's place, from its index; its
-- first copy, from its place; and what a later copy counts as
pub record Domain (V : Type 0) : Type 0 where
  pub ops : Ops V
  pub yes : V → V → V
  pub no : V → V → V
  pub index : ℕ → V → V
  pub load : ℕ → V → V
  pub cover : ℕ → V → V

-- ---- words

-- the word that is loaded from a place of an array
abbrev pub Loads : Type 0
Loads = ℕ → ℕ → ℤ

abbrev pub word_ops : Ops ℤ
word_ops = record { number = λ z. z; one = op1; two = op2; pick = picked; hash = hash }

-- words, with the length of each array and what is loaded from it
abbrev pub words : (ℕ → ℕ) → Loads → Domain ℤ
words lengths loads = record {
  ops = word_ops;
  yes = λ g c. flag (truth g && truth c);
  no = λ g c. flag (truth g && not (truth c));
  index = λ a z. pos (cell z (lengths a));
  load = λ a z. loads a (natural z);
  cover = λ a z. z;
}

-- ---- sources: the arrays behind a value

abbrev pub source_ops : Ops (List ℕ)
source_ops = record {
  number = λ z. [];
  one = λ op a. a;
  two = λ op a b. a ++ b;
  pick = λ c a b. c ++ (a ++ b);
  hash = λ kind a b c. a ++ (b ++ c);
}

-- a copy of an array has that array behind it
abbrev pub sources : Domain (List ℕ)
sources = record {
  ops = source_ops;
  yes = λ g c. g ++ c;
  no = λ g c. g ++ c;
  index = λ n a. a;
  load = λ n a. n ∷ [];
  cover = λ n a. n ∷ [];
}

-- ---- marks: what a header alone tells

-- the arrays behind a value, its word, which counts where there are none, and whether it is open as a guard
pub record Mark : Type 0 where
  pub arrays : List ℕ
  pub word : ℤ
  pub is_open : Bool

abbrev pub mark : List ℕ → ℤ → Mark
mark arrays word = record { arrays = arrays; word = word; is_open = true }

-- a condition with arrays behind it may hold or fail
abbrev pub may : List ℕ → Bool → Bool
may [] known = known
may (a ∷ arrays) known = true

abbrev pub mark_ops : Ops Mark
mark_ops = record {
  number = λ z. mark [] z;
  one = λ op a. mark a.arrays (op1 op a.word);
  two = λ op a b. mark (a.arrays ++ b.arrays) (op2 op a.word b.word);
  pick = λ c a b. mark (c.arrays ++ (a.arrays ++ b.arrays)) (picked c.word a.word b.word);
  hash = λ kind a b c. mark (a.arrays ++ (b.arrays ++ c.arrays)) (hash kind a.word b.word c.word);
}

-- marks, with the length of each array
abbrev pub marks : (ℕ → ℕ) → Domain Mark
marks lengths = record {
  ops = mark_ops;
  yes = λ g c. record {
    arrays = g.arrays ++ c.arrays;
    word = flag (truth g.word && truth c.word);
    is_open = g.is_open && may c.arrays (truth c.word);
  };
  no = λ g c. record {
    arrays = g.arrays ++ c.arrays;
    word = flag (truth g.word && not (truth c.word));
    is_open = g.is_open && may c.arrays (not (truth c.word));
  };
  index = λ n a. mark a.arrays (pos (cell a.word (lengths n)));
  load = λ n place. mark (n ∷ []) (pos 0);
  cover = λ n a. mark (n ∷ []) (pos 0);
}
