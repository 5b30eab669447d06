-- Where no name is declared twice, the table's names stand for what the program's names do.
use Rattle.std.proofs.Common.{◌≡◌, ℕ, suc, ◌+◌, ℤ, Bool, true, false, ◌&&◌, is_some, if◌then◌else◌, List, [], ◌∷◌, ◌++◌, length, map, flat_map, Option, Some, None, refl, sym, ap, subst, ◌∙◌, true≢false, append_assoc, append-nil, arith}
use Rattle.std.specs.Option.{unwrap_or}
use Rattle.std.specs.Str.{bytes_eq}
use Rattle.std.proofs.lemmas.Bool.{and_parts}
use Rattle.std.proofs.lemmas.List.{map-append, length-map}
use Rattle.std.proofs.lemmas.Grind.{flat_map-append}
use Rattle.std.proofs.lemmas.Slice.Eq.{bytes_eq-Decides}
use Rattle.domino_tree.specs.declared.program.Item.{Item}
use Rattle.domino_tree.specs.declared.program.Item.TheVariants as item
use Rattle.domino_tree.specs.declared.program.Program.{Program}
use Rattle.domino_tree.specs.Value.{Defined, Array, names_of, number_of, place_of, item_define, item_array}
use Rattle.domino_names.specs.declared.fault.CheckFault.TheVariants as fault
use Rattle.domino_names.specs.declared.infos.ArrayInfo.{ArrayInfo}
use Rattle.domino_names.specs.declared.role.Kind.{Kind}
use Rattle.domino_names.specs.declared.role.Kind.TheVariants as kind
use Rattle.domino_names.specs.declared.role.Class.{Class}
use Rattle.domino_names.specs.declared.role.Class.TheVariants as class
use Rattle.domino_names.specs.declared.role.Symbol.{Symbol}
use Rattle.domino_names.specs.declared.role.Symbol.TheVariants as symbol
use Rattle.domino_names.specs.Declarations.{Declaration, class_of, is_same_class, declares, kind_in, all_as, item_declaration, hash_declarations, declarations, declared}
use Rattle.domino_names.specs.Checks.{NoTwice}
use Rattle.domino_names.specs.Infos.{infos_of, array_of}
use Rattle.domino_names.specs.Symbols.{Named, kind_of, declaration_of, symbol_in, kind_from, number_from, field_from, array_from, defines_in, names_from, StandFor, arrays_after, item_symbols, field_symbols, packet_symbols, function_symbols, text_symbols, symbols_of}
use Rattle.domino_names.proofs.InfoLemmas.{infos_are}
use Rattle.domino_names.proofs.TableLemmas.{same_class_is, key_refl}

-- ---- declarations

-- one that doesn't declare the name of another isn't declared by it either
apart_back : (d x : Declaration) → declares (class_of x.kind) x.name d ≡ false → declares (class_of d.kind) d.name x ≡ false
apart_back d x e = by (declares (class_of d.kind) d.name x) refl
  where
    by : (b : Bool) → declares (class_of d.kind) d.name x ≡ b → declares (class_of d.kind) d.name x ≡ false
    by true h =
        let parts = and_parts (is_same_class (class_of d.kind) (class_of x.kind)) (bytes_eq d.name x.name) h in
        let same_class : class_of d.kind ≡ class_of x.kind = same_class_is (class_of d.kind) (class_of x.kind) parts.0 in
        let same_name : d.name ≡ x.name = (bytes_eq-Decides d.name x.name).0 parts.1 in
        absurd (true≢false (sym (key_refl (class_of d.kind) d.name) ∙ (λ i. is_same_class (same_class i) (class_of d.kind) && bytes_eq (same_name i) d.name) ∙ e))
    by false h = h

skip : (b : Bool) (k : Kind) (o : Option Kind) → (if b then Some k else o) ≡ None → (b ≡ false) × (o ≡ None)
skip true k o e = absurd (true≢false (ap is_some e))
skip false k o e = (refl, e)

-- a name that is declared nowhere is declared by none of these
nowhere_at : (c : Class) (name : List ℕ) (front : List Declaration) (d : Declaration) (back : List Declaration) → kind_in c name (front ++ d ∷ back) ≡ None → declares c name d ≡ false
nowhere_at c name [] d back e = (skip (declares c name d) d.kind (kind_in c name back) e).0
nowhere_at c name (x ∷ front) d back e = nowhere_at c name front d back (skip (declares c name x) x.kind (kind_in c name (front ++ d ∷ back)) e).1

-- each of these is new behind those before it
abbrev Once : List Declaration → List Declaration → Type 0
Once before [] = Unit {0}
Once before (d ∷ ds) = (kind_in (class_of d.kind) d.name before ≡ None) × Once (before ++ d ∷ []) ds

-- none of these declares a name that was declared before
none_later : (front : List Declaration) (d : Declaration) (back ds : List Declaration) → Once (front ++ d ∷ back) ds → kind_in (class_of d.kind) d.name ds ≡ None
none_later front d back [] h = refl
none_later front d back (x ∷ ds) h =
    ap (λ b. if b then Some x.kind else kind_in (class_of d.kind) d.name ds) (apart_back d x (nowhere_at (class_of x.kind) x.name front d back h.0))
    ∙ none_later front d (back ++ x ∷ []) ds (subst (λ (l : List Declaration). Once l ds) (append_assoc front (d ∷ back) (x ∷ [])) h.1)

-- no name is declared again behind its declaration
abbrev Distinct : List Declaration → Type 0
Distinct [] = Unit {0}
Distinct (d ∷ ds) = (kind_in (class_of d.kind) d.name ds ≡ None) × Distinct ds

distinct_from : (before ds : List Declaration) → Once before ds → Distinct ds
distinct_from before [] h = tt
distinct_from before (d ∷ ds) h = (none_later before d [] ds h.1, distinct_from (before ++ d ∷ []) ds h.1)

once_from : (before ds : List Declaration)
    → ((front : List Declaration) (x : Declaration) (back : List Declaration) → ds ≡ front ++ x ∷ back → kind_in (class_of x.kind) x.name (before ++ front) ≡ None)
    → Once before ds
once_from before [] new = tt
once_from before (d ∷ ds) new = (
  ap (kind_in (class_of d.kind) d.name) (sym (append-nil before)) ∙ new [] d ds refl,
  once_from (before ++ d ∷ []) ds (λ front x back is. ap (kind_in (class_of x.kind) x.name) (append_assoc before (d ∷ []) front) ∙ new (d ∷ front) x back (ap (λ (l : List Declaration). d ∷ l) is)),
)

untold : (o : Option Kind) → (is_some o ≡ true → ⊥) → o ≡ None
untold None h = refl
untold (Some k) h = absurd (h refl)

-- no name of a program that passes is declared twice
distinct : (p : Program) → NoTwice p → Distinct (declared p)
distinct p fine =
    distinct_from [] (declared p) (
      refl,
      (
        refl,
        (
          refl,
          (
            refl,
            once_from hash_declarations (declarations p)
                (λ front x back is. untold (kind_in (class_of x.kind) x.name (hash_declarations ++ front)) (λ h. fine front x back (fault.Twice x.name) is (h, refl))),
          ),
        ),
      ),
    )

-- ---- kinds

kind_if : (b : Bool) (s : Symbol) (o : Option Symbol) → kind_from (if b then Some s else o) ≡ (if b then Some (kind_of s) else kind_from o)
kind_if true s o = refl
kind_if false s o = refl

-- the kind of what a name stands for is the kind that it is declared as
pub kinds_are : (c : Class) (name : List ℕ) (ds : List Named) → kind_from (symbol_in c name ds) ≡ kind_in c name (map declaration_of ds)
kinds_are c name [] = refl
kinds_are c name (d ∷ ds) =
    kind_if (declares c name (declaration_of d)) d.symbol (symbol_in c name ds)
    ∙ ap (λ o. if declares c name (declaration_of d) then Some (kind_of d.symbol) else o) (kinds_are c name ds)

no_symbol : (o : Option Symbol) → kind_from o ≡ None → o ≡ None
no_symbol None e = refl
no_symbol (Some s) e = absurd (true≢false (ap is_some e))

-- ---- one more name

-- what is read of a name is that of the names behind, where this one has another name or stands for nothing of the kind
passed : {X : Type 0} (read : Option Symbol → X) (c : Class) (name n : List ℕ) (s : Symbol) (ds : List Named) (x : X) → read (Some s) ≡ read None
    → kind_in c n (map declaration_of ds) ≡ None → read (symbol_in c name ds) ≡ x → read (if bytes_eq name n then Some s else symbol_in c name ds) ≡ x
passed {X} read c name n s ds x unread nowhere behind = by (bytes_eq name n) refl
  where
    by : (b : Bool) → bytes_eq name n ≡ b → read (if bytes_eq name n then Some s else symbol_in c name ds) ≡ x
    by true e =
        let absent : symbol_in c name ds ≡ None = no_symbol (symbol_in c name ds) (kinds_are c name ds ∙ ap (λ m. kind_in c m (map declaration_of ds)) ((bytes_eq-Decides name n).0 e) ∙ nowhere) in
        ap (λ t. read (if t then Some s else symbol_in c name ds)) e ∙ unread ∙ ap read (sym absent) ∙ behind
    by false e = ap (λ t. read (if t then Some s else symbol_in c name ds)) e ∙ behind

-- ---- defined names

number_if : (b : Bool) (v : ℤ) (o : Option Symbol) (w : Option ℤ) → number_from o ≡ w → number_from (if b then Some (symbol.Define v) else o) ≡ (if b then Some v else w)
number_if true v o w e = refl
number_if false v o w e = e

defines_are : (name : List ℕ) (ds : List Named) → Distinct (map declaration_of ds) → number_from (symbol_in class.Others name ds) ≡ number_of name (defines_in ds)
defines_are name [] h = refl
defines_are name (d ∷ ds) h = by d.symbol h.0 (defines_are name ds h.1)
  where
    by : (s : Symbol) → kind_in (class_of (kind_of s)) d.name (map declaration_of ds) ≡ None
        → number_from (symbol_in class.Others name ds) ≡ number_of name (defines_in ds)
        → number_from (symbol_in class.Others name (record { name = d.name; symbol = s } ∷ ds)) ≡ number_of name (defines_in (record { name = d.name; symbol = s } ∷ ds))
    by (symbol.Field f) k behind = behind
    by symbol.Struct k behind = behind
    by (symbol.Define v) k behind = number_if (bytes_eq name d.name) v (symbol_in class.Others name ds) (number_of name (defines_in ds)) behind
    by (symbol.Scalar a) k behind = passed number_from class.Others name d.name (symbol.Scalar a) ds (number_of name (defines_in ds)) refl k behind
    by (symbol.Array a) k behind = passed number_from class.Others name d.name (symbol.Array a) ds (number_of name (defines_in ds)) refl k behind
    by symbol.Function k behind = passed number_from class.Others name d.name symbol.Function ds (number_of name (defines_in ds)) refl k behind
    by symbol.Packet k behind = passed number_from class.Others name d.name symbol.Packet ds (number_of name (defines_in ds)) refl k behind
    by symbol.Hash k behind = passed number_from class.Others name d.name symbol.Hash ds (number_of name (defines_in ds)) refl k behind

-- ---- arrays and fields

-- these names and others before
abbrev array_before : List ℕ → Symbol → List (List ℕ) → List (List ℕ)
array_before name (symbol.Scalar a) names = name ∷ names
array_before name (symbol.Array a) names = name ∷ names
array_before name s names = names

abbrev array_names : List Named → List (List ℕ)
array_names [] = []
array_names (d ∷ ds) = array_before d.name d.symbol (array_names ds)

-- the arrays are numbered from k on
abbrev ArrayAt : ℕ → Symbol → (ℕ → Type 0) → Type 0
ArrayAt k (symbol.Scalar a) rest = (a ≡ k) × rest (suc k)
ArrayAt k (symbol.Array a) rest = (a ≡ k) × rest (suc k)
ArrayAt k s rest = rest k

abbrev ArraysFrom : ℕ → List Named → Type 0
ArraysFrom k [] = Unit {0}
ArraysFrom k (d ∷ ds) = ArrayAt k d.symbol (λ n. ArraysFrom n ds)

abbrev field_before : List ℕ → Symbol → List (List ℕ) → List (List ℕ)
field_before name (symbol.Field f) names = name ∷ names
field_before name s names = names

abbrev field_names : List Named → List (List ℕ)
field_names [] = []
field_names (d ∷ ds) = field_before d.name d.symbol (field_names ds)

-- and so are the fields
abbrev FieldAt : ℕ → Symbol → (ℕ → Type 0) → Type 0
FieldAt k (symbol.Field f) rest = (f ≡ k) × rest (suc k)
FieldAt k s rest = rest k

abbrev FieldsFrom : ℕ → List Named → Type 0
FieldsFrom k [] = Unit {0}
FieldsFrom k (d ∷ ds) = FieldAt k d.symbol (λ n. FieldsFrom n ds)

-- the number of a name, where this one stands for the next
numbered_here : (read : Option Symbol → ℕ) (b : Bool) (s : Symbol) (o : Option Symbol) (k m : ℕ) → read (Some s) ≡ k → read o ≡ suc k + m → read (if b then Some s else o) ≡ k + (if b then 0 else suc m)
numbered_here read true s o k m here behind = omega (arith, here)
numbered_here read false s o k m here behind = omega (arith, behind)

-- the number of an array or a field, or a number past them all
abbrev array_or : ℕ → Option Symbol → ℕ
array_or past o = unwrap_or (array_from o) past

abbrev field_or : ℕ → Option Symbol → ℕ
field_or past o = unwrap_or (field_from o) past

arrays_are : (name : List ℕ) (past k : ℕ) (ds : List Named) → Distinct (map declaration_of ds) → ArraysFrom k ds → past ≡ k + length (array_names ds)
    → array_or past (symbol_in class.Others name ds) ≡ k + place_of name (array_names ds)
arrays_are name past k [] h from e = e
arrays_are name past k (d ∷ ds) h from e = by d.symbol h.0 from e (λ n. arrays_are name past n ds h.1)
  where
    by : (s : Symbol) → kind_in (class_of (kind_of s)) d.name (map declaration_of ds) ≡ None
        → ArraysFrom k (record { name = d.name; symbol = s } ∷ ds) → past ≡ k + length (array_names (record { name = d.name; symbol = s } ∷ ds))
        → ((n : ℕ) → ArraysFrom n ds → past ≡ n + length (array_names ds) → array_or past (symbol_in class.Others name ds) ≡ n + place_of name (array_names ds))
        → array_or past (symbol_in class.Others name (record { name = d.name; symbol = s } ∷ ds)) ≡ k + place_of name (array_names (record { name = d.name; symbol = s } ∷ ds))
    by (symbol.Field f) n from e rest = rest k from e
    by symbol.Struct n from e rest = rest k from e
    by (symbol.Define v) n from e rest = passed (array_or past) class.Others name d.name (symbol.Define v) ds (k + place_of name (array_names ds)) refl n (rest k from e)
    by (symbol.Scalar a) n from e rest =
        numbered_here (array_or past) (bytes_eq name d.name) (symbol.Scalar a) (symbol_in class.Others name ds) k (place_of name (array_names ds)) from.0 (rest (suc k) from.1 (omega (arith, e)))
    by (symbol.Array a) n from e rest =
        numbered_here (array_or past) (bytes_eq name d.name) (symbol.Array a) (symbol_in class.Others name ds) k (place_of name (array_names ds)) from.0 (rest (suc k) from.1 (omega (arith, e)))
    by symbol.Function n from e rest = passed (array_or past) class.Others name d.name symbol.Function ds (k + place_of name (array_names ds)) refl n (rest k from e)
    by symbol.Packet n from e rest = passed (array_or past) class.Others name d.name symbol.Packet ds (k + place_of name (array_names ds)) refl n (rest k from e)
    by symbol.Hash n from e rest = passed (array_or past) class.Others name d.name symbol.Hash ds (k + place_of name (array_names ds)) refl n (rest k from e)

fields_are : (name : List ℕ) (past k : ℕ) (ds : List Named) → FieldsFrom k ds → past ≡ k + length (field_names ds)
    → field_or past (symbol_in class.Fields name ds) ≡ k + place_of name (field_names ds)
fields_are name past k [] from e = e
fields_are name past k (d ∷ ds) from e = by d.symbol from e (λ n. fields_are name past n ds)
  where
    by : (s : Symbol) → FieldsFrom k (record { name = d.name; symbol = s } ∷ ds) → past ≡ k + length (field_names (record { name = d.name; symbol = s } ∷ ds))
        → ((n : ℕ) → FieldsFrom n ds → past ≡ n + length (field_names ds) → field_or past (symbol_in class.Fields name ds) ≡ n + place_of name (field_names ds))
        → field_or past (symbol_in class.Fields name (record { name = d.name; symbol = s } ∷ ds)) ≡ k + place_of name (field_names (record { name = d.name; symbol = s } ∷ ds))
    by (symbol.Field f) from e rest =
        numbered_here (field_or past) (bytes_eq name d.name) (symbol.Field f) (symbol_in class.Fields name ds) k (place_of name (field_names ds)) from.0 (rest (suc k) from.1 (omega (arith, e)))
    by symbol.Struct from e rest = rest k from e
    by (symbol.Define v) from e rest = rest k from e
    by (symbol.Scalar a) from e rest = rest k from e
    by (symbol.Array a) from e rest = rest k from e
    by symbol.Function from e rest = rest k from e
    by symbol.Packet from e rest = rest k from e
    by symbol.Hash from e rest = rest k from e

-- ---- what a program declares

module _ (rest : List Named) where
  -- the definitions, arrays and fields of items, and those behind them
  defines_items : (n : ℕ) (items : List Item) → defines_in (item_symbols n items ++ rest) ≡ flat_map item_define items ++ defines_in rest
  defines_items n [] = refl
  defines_items n (item.Define name value ∷ items) = ap (λ (l : List Defined). record { name = name; number = value } ∷ l) (defines_items n items)
  defines_items n (item.Array name None start ∷ items) = defines_items (suc n) items
  defines_items n (item.Array name (Some l) start ∷ items) = defines_items (suc n) items

  names_items : (defines : List Defined) (n : ℕ) (items : List Item) → array_names (item_symbols n items ++ rest) ≡ map (λ (a : Array). a.name) (flat_map (item_array defines) items) ++ array_names rest
  names_items defines n [] = refl
  names_items defines n (item.Define name value ∷ items) = names_items defines n items
  names_items defines n (item.Array name None start ∷ items) = ap (λ (l : List (List ℕ)). name ∷ l) (names_items defines (suc n) items)
  names_items defines n (item.Array name (Some l) start ∷ items) = ap (λ (l : List (List ℕ)). name ∷ l) (names_items defines (suc n) items)

  arrays_items : (n : ℕ) (items : List Item) → ArraysFrom (arrays_after n items) rest → ArraysFrom n (item_symbols n items ++ rest)
  arrays_items n [] h = h
  arrays_items n (item.Define name value ∷ items) h = arrays_items n items h
  arrays_items n (item.Array name None start ∷ items) h = (refl, arrays_items (suc n) items h)
  arrays_items n (item.Array name (Some l) start ∷ items) h = (refl, arrays_items (suc n) items h)

  fields_items : (n : ℕ) (items : List Item) → field_names (item_symbols n items ++ rest) ≡ field_names rest
  fields_items n [] = refl
  fields_items n (item.Define name value ∷ items) = fields_items n items
  fields_items n (item.Array name None start ∷ items) = fields_items (suc n) items
  fields_items n (item.Array name (Some l) start ∷ items) = fields_items (suc n) items

  placed_items : (n k : ℕ) (items : List Item) → FieldsFrom k rest → FieldsFrom k (item_symbols n items ++ rest)
  placed_items n k [] h = h
  placed_items n k (item.Define name value ∷ items) h = placed_items n k items h
  placed_items n k (item.Array name None start ∷ items) h = placed_items (suc n) k items h
  placed_items n k (item.Array name (Some l) start ∷ items) h = placed_items (suc n) k items h

  -- those of fields, and those behind them
  defines_fields : (n : ℕ) (fields : List (List ℕ)) → defines_in (field_symbols n fields ++ rest) ≡ defines_in rest
  defines_fields n [] = refl
  defines_fields n (f ∷ fields) = defines_fields (suc n) fields

  names_fields : (n : ℕ) (fields : List (List ℕ)) → array_names (field_symbols n fields ++ rest) ≡ array_names rest
  names_fields n [] = refl
  names_fields n (f ∷ fields) = names_fields (suc n) fields

  arrays_fields : (n k : ℕ) (fields : List (List ℕ)) → ArraysFrom k rest → ArraysFrom k (field_symbols n fields ++ rest)
  arrays_fields n k [] h = h
  arrays_fields n k (f ∷ fields) h = arrays_fields (suc n) k fields h

  fields_fields : (n : ℕ) (fields : List (List ℕ)) → field_names (field_symbols n fields ++ rest) ≡ fields ++ field_names rest
  fields_fields n [] = refl
  fields_fields n (f ∷ fields) = ap (λ (l : List (List ℕ)). f ∷ l) (fields_fields (suc n) fields)

  placed_fields : (n : ℕ) (fields : List (List ℕ)) → ((k : ℕ) → FieldsFrom k rest) → FieldsFrom n (field_symbols n fields ++ rest)
  placed_fields n [] h = h n
  placed_fields n (f ∷ fields) h = (refl, placed_fields (suc n) fields h)

  -- and what all of these are declared as
  kinds_items : (n : ℕ) (items : List Item) → map declaration_of (item_symbols n items ++ rest) ≡ map item_declaration items ++ map declaration_of rest
  kinds_items n [] = refl
  kinds_items n (item.Define name value ∷ items) = ap (λ (l : List Declaration). record { name = name; kind = kind.Define } ∷ l) (kinds_items n items)
  kinds_items n (item.Array name None start ∷ items) = ap (λ (l : List Declaration). record { name = name; kind = kind.Scalar } ∷ l) (kinds_items (suc n) items)
  kinds_items n (item.Array name (Some l) start ∷ items) = ap (λ (l : List Declaration). record { name = name; kind = kind.Array } ∷ l) (kinds_items (suc n) items)

  kinds_fields : (n : ℕ) (fields : List (List ℕ)) → map declaration_of (field_symbols n fields ++ rest) ≡ all_as kind.Field fields ++ map declaration_of rest
  kinds_fields n [] = refl
  kinds_fields n (f ∷ fields) = ap (λ (l : List Declaration). record { name = f; kind = kind.Field } ∷ l) (kinds_fields (suc n) fields)

module _ (p : Program) where
  abbrev after_before : ℕ
  after_before = arrays_after 0 p.before

  abbrev last : List Named
  last = function_symbols p.function

  abbrev behind : List Named
  behind = item_symbols after_before p.after ++ last

  abbrev middle : List Named
  middle = packet_symbols p.packet ++ behind

  -- the declarations of a program are those of its table
  pub declarations_are : map declaration_of (text_symbols p) ≡ declarations p
  declarations_are =
      kinds_items middle 0 p.before
      ∙ ap (λ (l : List Declaration). map item_declaration p.before ++ record { name = p.packet.name; kind = kind.Struct } ∷ l)
      (kinds_fields behind 0 p.packet.fields ∙ ap (λ (l : List Declaration). all_as kind.Field p.packet.fields ++ l) (kinds_items last after_before p.after))

  pub declared_are : map declaration_of (symbols_of p) ≡ declared p
  declared_are = ap (λ (l : List Declaration). hash_declarations ++ l) declarations_are

  pub defines_of_program : defines_in (symbols_of p) ≡ (names_of p).defines
  defines_of_program =
      defines_items middle 0 p.before
      ∙ ap (λ (l : List Defined). flat_map item_define p.before ++ l) (defines_fields behind 0 p.packet.fields ∙ defines_items last after_before p.after ∙ append-nil (flat_map item_define p.after))
      ∙ sym (flat_map-append item_define p.before p.after)

  arrays_of_program : array_names (symbols_of p) ≡ map (λ (a : Array). a.name) (names_of p).arrays
  arrays_of_program =
      let defines : List Defined = (names_of p).defines in
      let names_in : List Item → List (List ℕ) = λ items. map (λ (a : Array). a.name) (flat_map (item_array defines) items) in
      names_items middle defines 0 p.before
      ∙ ap (λ (l : List (List ℕ)). names_in p.before ++ l) (names_fields behind 0 p.packet.fields ∙ names_items last defines after_before p.after ∙ append-nil (names_in p.after))
      ∙ sym (map-append (λ (a : Array). a.name) (flat_map (item_array defines) p.before) (flat_map (item_array defines) p.after))
      ∙ ap (map (λ (a : Array). a.name)) (sym (flat_map-append (item_array defines) p.before p.after))

  fields_of_program : field_names (symbols_of p) ≡ p.packet.fields
  fields_of_program =
      fields_items middle 0 p.before
      ∙ fields_fields behind 0 p.packet.fields
      ∙ ap (λ (l : List (List ℕ)). p.packet.fields ++ l) (fields_items last after_before p.after)
      ∙ append-nil p.packet.fields

  -- where no name is declared twice, each name stands for what the program's names say
  pub stand_for : NoTwice p → StandFor (symbols_of p) (names_of p)
  stand_for once =
      let apart : Distinct (map declaration_of (symbols_of p)) = subst Distinct (sym declared_are) (distinct p once) in
      record {
        defines = λ name. defines_are name (symbols_of p) apart ∙ ap (number_of name) defines_of_program;
        fields = λ name.
            fields_are name (length p.packet.fields) 0 (symbols_of p) (placed_items middle 0 0 p.before (placed_fields behind 0 p.packet.fields (λ k. placed_items last after_before k p.after tt)))
            (omega (arith, ap length fields_of_program))
            ∙ omega arith
            ∙ ap (place_of name) fields_of_program;
        arrays = λ name.
            arrays_are name (length (names_of p).arrays) 0 (symbols_of p) apart
            (arrays_items middle 0 p.before (arrays_fields behind 0 after_before p.packet.fields (arrays_items last after_before p.after tt)))
            (omega (arith, ap length arrays_of_program, length-map (names_of p).arrays (λ (a : Array). a.name)))
            ∙ omega arith
            ∙ ap (place_of name) arrays_of_program;
      }

  pub names_are : (infos : List ArrayInfo) → infos ≡ infos_of p → names_from (symbols_of p) p.packet.fields infos ≡ names_of p
  names_are infos is = λ j. record { defines = defines_of_program j; fields = p.packet.fields; arrays = (ap (map array_of) is ∙ infos_are p) j }
