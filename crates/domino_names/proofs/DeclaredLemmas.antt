-- What a program declares is among its definitions and its arrays.
use Rattle.std.proofs.Common.{◌≡◌, ℕ, suc, ◌<◌, ℤ, Bool, true, false, if◌then◌else◌, List, [], ◌∷◌, ◌++◌, length, map, flat_map, codes, not, nat_eq, ◌⊎◌, inl, inr, Option, Some, None, refl, sym, ap, subst, ◌∙◌, true≢false, eqb-true, arith}
use Rattle.std.specs.Str.{bytes_eq}
use Rattle.std.proofs.lemmas.Bool.{and_parts}
use Rattle.std.proofs.lemmas.List.{map-append}
use Rattle.std.proofs.lemmas.Slice.Eq.{bytes_eq-Decides}
use Rattle.domino_tree.specs.declared.program.Item.{Item}
use Rattle.domino_tree.specs.declared.program.Item.TheVariants as item
use Rattle.domino_tree.specs.declared.program.Program.{Program}
use Rattle.domino_tree.specs.Value.{Defined, Array, item_define, item_array, names_of, number_of, place_of, array_number, length_value, start_value, hash_kind}
use Rattle.domino_names.specs.declared.role.Kind.{Kind}
use Rattle.domino_names.specs.declared.role.Kind.TheVariants as kind
use Rattle.domino_names.specs.declared.role.Class.{Class}
use Rattle.domino_names.specs.declared.role.Class.TheVariants as class
use Rattle.mp5_words.specs.declared.hashing.HashKind.{HashKind}
use Rattle.mp5_words.specs.declared.hashing.HashKind.TheVariants as hash
use Rattle.domino_names.specs.Checks.{arity as named_arity}
use Rattle.mp5_words.specs.Words.{arity}
use Rattle.domino_names.specs.Declarations.{Declaration, class_of, is_same_class, declares, kind_in, all_as, hash_names, hash_declarations, item_declaration, packet_declarations, function_declarations, declarations, declared}

-- a name is declared as a kind that passes a test
abbrev Among : (Kind → Bool) → List ℕ → List Declaration → Type 0
Among test w [] = ⊥
Among test w (d ∷ ds) = ((d.name ≡ w) × (test d.kind ≡ true)) ⊎ Among test w ds

module _ (test : Kind → Bool) (w : List ℕ) where
  -- what is found is among the declarations
  among_found : (c : Class) (ds : List Declaration) (k : Kind) → kind_in c w ds ≡ Some k → test k ≡ true → Among test w ds
  among_found c [] k e t = absurd (none_some e)
    where
      none_some : None ≡ Some k → ⊥
      none_some h = true≢false (ap (λ (o : Option Kind). elim o as (λ _. Bool) [ None ↦ true | Some x ↦ false ]) h)
  among_found c (d ∷ ds) k e t = by (declares c w d) refl (among_found c ds k)
    where
      some_kind : (x y : Kind) → Some x ≡ Some y → x ≡ y
      some_kind x y h = ap (λ (o : Option Kind). elim o as (λ _. Kind) [ None ↦ x | Some z ↦ z ]) h

      by : (b : Bool) → declares c w d ≡ b → (kind_in c w ds ≡ Some k → test k ≡ true → Among test w ds) → Among test w (d ∷ ds)
      by true h rest =
          let parts = and_parts (is_same_class c (class_of d.kind)) (bytes_eq w d.name) h in
          let is : d.kind ≡ k = some_kind d.kind k (sym (ap (λ t. if t then Some d.kind else kind_in c w ds) h) ∙ e) in
          inl (sym ((bytes_eq-Decides w d.name).0 parts.1), ap test is ∙ t)
      by false h rest = inr (rest (sym (ap (λ t. if t then Some d.kind else kind_in c w ds) h) ∙ e) t)

  -- it is in one of two lists
  among_either : (xs ys : List Declaration) → Among test w (xs ++ ys) → Among test w xs ⊎ Among test w ys
  among_either [] ys a = inr a
  among_either (x ∷ xs) ys (inl h) = inl (inl h)
  among_either (x ∷ xs) ys (inr h) = elim (among_either xs ys h) [ inl a ↦ inl (inr a) | inr a ↦ inr a ]

  among_left : (xs ys : List Declaration) → Among test w xs → Among test w (xs ++ ys)
  among_left [] ys a = absurd a
  among_left (x ∷ xs) ys (inl h) = inl h
  among_left (x ∷ xs) ys (inr h) = inr (among_left xs ys h)

  among_right : (xs ys : List Declaration) → Among test w ys → Among test w (xs ++ ys)
  among_right [] ys a = a
  among_right (x ∷ xs) ys a = inr (among_right xs ys a)

  -- none of these kinds passes the test
  not_among : (k : Kind) (names : List (List ℕ)) → test k ≡ false → Among test w (all_as k names) → ⊥
  not_among k [] fails a = absurd a
  not_among k (n ∷ names) fails (inl h) = true≢false (sym h.1 ∙ fails)
  not_among k (n ∷ names) fails (inr h) = not_among k names fails h

  -- where no hash function, field, struct, function or packet passes the test, an item does
  among_items : (p : Program) → test kind.Hash ≡ false → test kind.Struct ≡ false → test kind.Field ≡ false → test kind.Function ≡ false → test kind.Packet ≡ false
      → Among test w (declared p) → Among test w (map item_declaration (p.before ++ p.after))
  among_items p hash struct field function packet a =
      let before = map item_declaration p.before in
      let after = map item_declaration p.after in
      let all : (l : Among test w before ⊎ Among test w after) → Among test w (map item_declaration (p.before ++ p.after)) = λ l.
      subst (Among test w) (sym (map-append item_declaration p.before p.after)) (elim l [ inl x ↦ among_left before after x | inr x ↦ among_right before after x ]) in
      elim (among_either hash_declarations (declarations p) a) [
        | inl h ↦ absurd (not_among kind.Hash hash_names hash h)
        | inr h ↦ elim (among_either before (packet_declarations p.packet ++ (after ++ function_declarations p.function)) h) [
          | inl x ↦ all (inl x)
          | inr x ↦ elim (among_either (packet_declarations p.packet) (after ++ function_declarations p.function) x) [
            | inl y ↦ elim y [
              | inl z ↦ absurd (true≢false (sym z.1 ∙ struct))
              | inr z ↦ absurd (not_among kind.Field p.packet.fields field z)
            ]
            | inr y ↦ elim (among_either after (function_declarations p.function) y) [
              | inl z ↦ all (inr z)
              | inr z ↦ elim z [
                | inl f ↦ absurd (true≢false (sym f.1 ∙ function))
                | inr f ↦ elim f [
                  | inl g ↦ absurd (true≢false (sym g.1 ∙ packet))
                  | inr g ↦ absurd g
                ]
              ]
            ]
          ]
        ]
      ]

-- ---- definitions

abbrev is_define : Kind → Bool
is_define kind.Define = true
is_define k = false

-- a name that an item defines has a number
define_in : (w : List ℕ) (items : List Item) → Among is_define w (map item_declaration items) → (z : ℤ) × (number_of w (flat_map item_define items) ≡ Some z)
define_in w [] a = absurd a
define_in w (item.Define name value ∷ items) a = by (bytes_eq w name) refl (define_in w items)
  where
    by : (b : Bool) → bytes_eq w name ≡ b → (Among is_define w (map item_declaration items) → (z : ℤ) × (number_of w (flat_map item_define items) ≡ Some z)) → (z : ℤ) × (number_of w (flat_map item_define (item.Define name value ∷ items)) ≡ Some z)
    by true e rest = (value, ap (λ t. if t then Some value else number_of w (flat_map item_define items)) e)
    by false e rest =
        elim a [
          | inl h ↦ absurd (true≢false (sym ((bytes_eq-Decides w name).1 (sym h.0)) ∙ e))
          | inr h ↦ (let r = rest h in (r.0, ap (λ t. if t then Some value else number_of w (flat_map item_define items)) e ∙ r.1))
        ]
define_in w (item.Array name None start ∷ items) (inl h) = absurd (true≢false (sym h.1))
define_in w (item.Array name None start ∷ items) (inr h) = define_in w items h
define_in w (item.Array name (Some s) start ∷ items) (inl h) = absurd (true≢false (sym h.1))
define_in w (item.Array name (Some s) start ∷ items) (inr h) = define_in w items h

-- a defined name has a number
pub defined_number : (p : Program) (c : Class) (w : List ℕ) → kind_in c w (declared p) ≡ Some kind.Define → (z : ℤ) × (number_of w (names_of p).defines ≡ Some z)
defined_number p c w e = define_in w (p.before ++ p.after) (among_items is_define w p refl refl refl refl refl (among_found is_define w c (declared p) kind.Define e refl))

-- ---- arrays

abbrev is_register : Kind → Bool
is_register kind.Scalar = true
is_register kind.Array = true
is_register k = false

-- a name's place among the arrays of these items
abbrev Placed : List Defined → List ℕ → List Item → Type 0
Placed defines w items = place_of w (map (λ (d : Array). d.name) (flat_map (item_array defines) items)) < length (flat_map (item_array defines) items)

-- one more array
placed_more : (w name : List ℕ) (places : List (List ℕ)) (n : ℕ) → ((name ≡ w) ⊎ (place_of w places < n)) → place_of w (name ∷ places) < suc n
placed_more w name places n h = by (bytes_eq w name) refl
  where
    by : (b : Bool) → bytes_eq w name ≡ b → place_of w (name ∷ places) < suc n
    by true e = subst (λ t. t < suc n) (sym (ap (λ t. if t then 0 else suc (place_of w places)) e)) (omega arith)
    by false e = subst (λ t. t < suc n) (sym (ap (λ t. if t then 0 else suc (place_of w places)) e))
        (elim h [
          | inl same ↦ absurd (true≢false (sym ((bytes_eq-Decides w name).1 (sym same)) ∙ e))
          | inr less ↦ omega (arith, less)
        ])

-- one more array in front of those of these items
placed_front : (defines : List Defined) (w : List ℕ) (d : Array) (items : List Item) → ((d.name ≡ w) ⊎ Placed defines w items)
    → place_of w (map (λ (x : Array). x.name) (d ∷ flat_map (item_array defines) items)) < length (d ∷ flat_map (item_array defines) items)
placed_front defines w d items h =
    let arrays = flat_map (item_array defines) items in
    let counted : length (d ∷ arrays) ≡ suc (length arrays) = omega arith in
    subst (λ n. place_of w (d.name ∷ map (λ (x : Array). x.name) arrays) < n) (sym counted) (placed_more w d.name (map (λ (x : Array). x.name) arrays) (length arrays) h)

array_in : (defines : List Defined) (w : List ℕ) (items : List Item) → Among is_register w (map item_declaration items) → Placed defines w items
array_in defines w [] a = absurd a
array_in defines w (item.Define name value ∷ items) (inl h) = absurd (true≢false (sym h.1))
array_in defines w (item.Define name value ∷ items) (inr h) = array_in defines w items h
array_in defines w (item.Array name None start ∷ items) (inl h) = placed_front defines w (record { name = name; length = length_value defines None; start = start_value defines start }) items (inl h.0)
array_in defines w (item.Array name None start ∷ items) (inr h) = placed_front defines w (record { name = name; length = length_value defines None; start = start_value defines start }) items (inr (array_in defines w items h))
array_in defines w (item.Array name (Some s) start ∷ items) (inl h) = placed_front defines w (record { name = name; length = length_value defines (Some s); start = start_value defines start }) items (inl h.0)
array_in defines w (item.Array name (Some s) start ∷ items) (inr h) = placed_front defines w (record { name = name; length = length_value defines (Some s); start = start_value defines start }) items (inr (array_in defines w items h))

-- a register's number is one of an array
pub register_number : (p : Program) (c : Class) (w : List ℕ) (k : Kind) → kind_in c w (declared p) ≡ Some k → is_register k ≡ true → array_number (names_of p) w < length (names_of p).arrays
register_number p c w k e t = array_in (names_of p).defines w (p.before ++ p.after) (among_items is_register w p refl refl refl refl refl (among_found is_register w c (declared p) k e t))

-- ---- fields

abbrev is_field : Kind → Bool
is_field kind.Field = true
is_field k = false

-- an item declares no field
no_field_item : (w : List ℕ) (items : List Item) → Among is_field w (map item_declaration items) → ⊥
no_field_item w [] a = a
no_field_item w (item.Define name value ∷ items) (inl h) = true≢false (sym h.1)
no_field_item w (item.Define name value ∷ items) (inr h) = no_field_item w items h
no_field_item w (item.Array name None start ∷ items) (inl h) = true≢false (sym h.1)
no_field_item w (item.Array name None start ∷ items) (inr h) = no_field_item w items h
no_field_item w (item.Array name (Some s) start ∷ items) (inl h) = true≢false (sym h.1)
no_field_item w (item.Array name (Some s) start ∷ items) (inr h) = no_field_item w items h

-- a name's place among these
field_in : (w : List ℕ) (names : List (List ℕ)) → Among is_field w (all_as kind.Field names) → place_of w names < length names
field_in w [] a = absurd a
field_in w (n ∷ names) (inl h) = placed_more w n names (length names) (inl h.0)
field_in w (n ∷ names) (inr h) = placed_more w n names (length names) (inr (field_in w names h))

-- a field's number is one of a field
pub field_below : (p : Program) (c : Class) (w : List ℕ) → kind_in c w (declared p) ≡ Some kind.Field → place_of w p.packet.fields < length p.packet.fields
field_below p c w e =
    let after = map item_declaration p.after in
    elim (among_either is_field w hash_declarations (declarations p) (among_found is_field w c (declared p) kind.Field e refl)) [
      | inl h ↦ absurd (not_among is_field w kind.Hash hash_names refl h)
      | inr h ↦ elim (among_either is_field w (map item_declaration p.before) (packet_declarations p.packet ++ (after ++ function_declarations p.function)) h) [
        | inl x ↦ absurd (no_field_item w p.before x)
        | inr x ↦ elim (among_either is_field w (packet_declarations p.packet) (after ++ function_declarations p.function) x) [
          | inl y ↦ elim y [
            | inl z ↦ absurd (true≢false (sym z.1))
            | inr z ↦ field_in w p.packet.fields z
          ]
          | inr y ↦ elim (among_either is_field w after (function_declarations p.function) y) [
            | inl z ↦ absurd (no_field_item w p.after z)
            | inr z ↦ elim z [
              | inl f ↦ absurd (true≢false (sym f.1))
              | inr f ↦ elim f [
                | inl g ↦ absurd (true≢false (sym g.1))
                | inr g ↦ absurd g
              ]
            ]
          ]
        ]
      ]
    ]

-- ---- hash functions

abbrev is_hash : Kind → Bool
is_hash kind.Hash = true
is_hash k = false

no_hash_item : (w : List ℕ) (items : List Item) → Among is_hash w (map item_declaration items) → ⊥
no_hash_item w [] a = a
no_hash_item w (item.Define name value ∷ items) (inl h) = true≢false (sym h.1)
no_hash_item w (item.Define name value ∷ items) (inr h) = no_hash_item w items h
no_hash_item w (item.Array name None start ∷ items) (inl h) = true≢false (sym h.1)
no_hash_item w (item.Array name None start ∷ items) (inr h) = no_hash_item w items h
no_hash_item w (item.Array name (Some s) start ∷ items) (inl h) = true≢false (sym h.1)
no_hash_item w (item.Array name (Some s) start ∷ items) (inr h) = no_hash_item w items h

-- what is declared as a hash function is one of those that are declared before the text
among_hashes : (p : Program) (w : List ℕ) → Among is_hash w (declared p) → Among is_hash w hash_declarations
among_hashes p w a =
    let after = map item_declaration p.after in
    elim (among_either is_hash w hash_declarations (declarations p) a) [
      | inl h ↦ h
      | inr h ↦ elim (among_either is_hash w (map item_declaration p.before) (packet_declarations p.packet ++ (after ++ function_declarations p.function)) h) [
        | inl x ↦ absurd (no_hash_item w p.before x)
        | inr x ↦ elim (among_either is_hash w (packet_declarations p.packet) (after ++ function_declarations p.function) x) [
          | inl y ↦ elim y [
            | inl z ↦ absurd (true≢false (sym z.1))
            | inr z ↦ absurd (not_among is_hash w kind.Field p.packet.fields refl z)
          ]
          | inr y ↦ elim (among_either is_hash w after (function_declarations p.function) y) [
            | inl z ↦ absurd (no_hash_item w p.after z)
            | inr z ↦ elim z [
              | inl f ↦ absurd (true≢false (sym f.1))
              | inr f ↦ elim f [
                | inl g ↦ absurd (true≢false (sym g.1))
                | inr g ↦ absurd g
              ]
            ]
          ]
        ]
      ]
    ]

-- as many arguments as the name says
right_count : (n m : ℕ) → (not (nat_eq n m) ≡ true → ⊥) → n ≡ m
right_count n m h = by (nat_eq n m) refl
  where
    by : (b : Bool) → nat_eq n m ≡ b → n ≡ m
    by true e = eqb-true n m e
    by false e = absurd (h (ap not e))

-- a name that is declared as a hash function is called with as many arguments as that takes
pub hash_called : (p : Program) (w : List ℕ) (n : ℕ) → kind_in class.Others w (declared p) ≡ Some kind.Hash → (not (nat_eq n (named_arity w)) ≡ true → ⊥) → (k : HashKind) × (hash_kind w ≡ Some k) × (n ≡ arity k)
hash_called p w n e right =
    let count = right_count n (named_arity w) right in
    let one : (name : List ℕ) (k : HashKind) → name ≡ w → hash_kind name ≡ Some k → named_arity name ≡ arity k → (k : HashKind) × (hash_kind w ≡ Some k) × (n ≡ arity k) = λ name k is kind args.
    (k, ap hash_kind (sym is) ∙ kind, count ∙ ap named_arity (sym is) ∙ args) in
    elim (among_hashes p w (among_found is_hash w class.Others (declared p) kind.Hash e refl)) [
      | inl h ↦ one (codes "hash2") hash.Two h.0 refl refl
      | inr h ↦ elim h [
        | inl h ↦ one (codes "hash2a") hash.TwoA h.0 refl refl
        | inr h ↦ elim h [
          | inl h ↦ one (codes "hash2b") hash.TwoB h.0 refl refl
          | inr h ↦ elim h [
            | inl h ↦ one (codes "hash3") hash.Three h.0 refl refl
            | inr h ↦ absurd h
          ]
        ]
      ]
    ]
