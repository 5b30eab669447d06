-- Staged code on headers, one after another, ends as the sequential run does.
use Rattle.std.proofs.Common.{◌≡◌, ℕ, zero, suc, ◌<◌, ℤ, Bool, false, if◌then◌else◌, List, [], ◌∷◌, length, map, replicate, Option, None, Some, refl, sym, ap, subst, ◌∙◌, arith}
use Rattle.std.specs.List.{slice_index_or}
use Rattle.mp5_words.specs.Cells.{word_at, cells_at}
use Rattle.mp5_words.specs.Domain.{Loads}
use Rattle.domino_tree.specs.declared.program.Program.{Program}
use Rattle.domino_tree.specs.Value.{HasCells, Array, names_of}
use Rattle.domino_tree.specs.Execution.{State, exec}
use Rattle.domino_tree.specs.Sequential as sequential
use Rattle.domino_tree.proofs.ShapeLemmas.{exec_has_cells, start_has_cells}
use Rattle.code_forms.specs.FlatMeaning.{flat_length}
use Rattle.code_forms.specs.Staged.{Staged, group_at, group_of, unit_count, unit_cell}
use Rattle.code_forms.specs.StagedMeaning.{Units, is_touching, place, is_place, placed_word, loaded_word, staged_values, code_values, last_words, cells_after, units_after, start_of, HasUnits}
use Rattle.branch_removal.specs.Kept.{untouched}
use Rattle.domino_compile.specs.MeaningKept.{units_of, EndsAsSource, MeansSource}
use Rattle.code_forms.specs.OverHeaders.{start_units, units_over, values_at}
use Rattle.domino_compile.specs.MeaningRun.{AreWide, RunsAsSource}

-- before an execution no array is touched, by either way to say it
none_touched : (arrays : List Array) → map (λ (d : Array). false) arrays ≡ replicate (length arrays) false
none_touched [] = refl
none_touched (d ∷ arrays) = ap (λ l. false ∷ l) (none_touched arrays)

module _ (p : Program) (c : Staged) (placed : (header : List ℤ) → length header ≡ c.fields → HasUnits c header) (grouped : (a g : ℕ) → group_of c a ≡ Some g → g < length c.groups) (means : MeansSource p c) where
  -- the units that there are, are the same
  abbrev Agree : Units → Units → Type 0
  Agree some other = (g u : ℕ) → g < length c.groups → u < unit_count c (group_at c g) → some g u ≡ other g u

  -- then what is loaded is, and so are all values
  placed_same : (header : List ℤ) (some other : Units) (g a index : ℕ) (o : Option ℕ) → length header ≡ c.fields → g < length c.groups → Agree some other → place c header g ≡ o
      → placed_word c some g o a index ≡ placed_word c other g o a index
  placed_same header some other g a index None long below agree is = refl
  placed_same header some other g a index (Some u) long below agree is =
      ap (λ l. word_at l (unit_cell c (group_at c g) a index)) (agree g u below (placed header long g u below is))

  loaded_same : (header : List ℤ) (some other : Units) (a index : ℕ) (o : Option ℕ) → length header ≡ c.fields → Agree some other → group_of c a ≡ o
      → loaded_word c some header o a index ≡ loaded_word c other header o a index
  loaded_same header some other a index None long agree is = refl
  loaded_same header some other a index (Some g) long agree is = placed_same header some other g a index (place c header g) long (grouped a g is) agree refl

  values_same : (header : List ℤ) (some other : Units) → length header ≡ c.fields → Agree some other → staged_values c some header ≡ staged_values c other header
  values_same header some other long agree =
      ap (λ (loads : Loads). code_values c loads header) (λ i a index. loaded_same header some other a index (group_of c a) long agree refl i)

  after_same : (header : List ℤ) (some other : Units) → length header ≡ c.fields → Agree some other → Agree (units_after c some header) (units_after c other header)
  after_same header some other long agree g u below less =
      λ i. if is_place (place c header g) u then cells_after c (values_same header some other long agree i) (group_at c g) (agree g u below less i) else agree g u below less i

  -- ---- one packet

  start_is : (header : List ℤ) (cells : List (List ℤ)) → record { store = record { fields = header; cells = cells }; touched = sequential.untouched (names_of p) } ≡ untouched p header cells
  start_is header cells = ap (λ (l : List Bool). record { store = record { fields = header; cells = cells }; touched = l }) (none_touched (names_of p).arrays)

  -- what the source does with a packet
  abbrev done : List ℤ → List (List ℤ) → State
  done header cells = exec (names_of p) p.function.body (record { store = record { fields = header; cells = cells }; touched = sequential.untouched (names_of p) })

  ends : (header : List ℤ) (cells : List (List ℤ)) → length header ≡ c.fields → HasCells (names_of p) cells → EndsAsSource c header cells (staged_values c (units_of c cells) header) (done header cells)
  ends header cells long has =
      subst (λ (s : State). EndsAsSource c header cells (staged_values c (units_of c cells) header) (exec (names_of p) p.function.body s)) (sym (start_is header cells)) (means header cells long has)

  -- ---- all packets

  front : (h : List ℤ) (hs : List (List ℤ)) → AreWide c (h ∷ hs) → length h ≡ c.fields
  front h hs wide = wide 0 [] (omega arith)

  rest : (h : List ℤ) (hs : List (List ℤ)) → AreWide c (h ∷ hs) → AreWide c hs
  rest h hs wide k d less = wide (suc k) d (omega (arith, less))

  abbrev run : List (List ℤ) → List (List ℤ) → sequential.Outcome
  run cells headers = sequential.run_from (names_of p) p.function.body cells headers

  -- one packet, from units that are those of the cells
  pub record Steps (header : List ℤ) (cells : List (List ℤ)) (units : Units) : Type 0 where
    pub packet : last_words c (staged_values c units header) ≡ (done header cells).store.fields
    pub touched : (a : ℕ) → is_touching c (staged_values c units header) a ≡ slice_index_or (done header cells).touched a false
    pub next : Agree (units_after c units header) (units_of c (done header cells).store.cells)
    pub has : HasCells (names_of p) (done header cells).store.cells
    pub kept : (a : ℕ) → group_of c a ≡ None → cells_at (done header cells).store.cells a ≡ cells_at cells a

  steps : (header : List ℤ) (cells : List (List ℤ)) (units : Units) → length header ≡ c.fields → HasCells (names_of p) cells → Agree units (units_of c cells) → Steps header cells units
  steps header cells units long has agree =
      let end : EndsAsSource c header cells (staged_values c (units_of c cells) header) (done header cells) = ends header cells long has in
      let same : staged_values c units header ≡ staged_values c (units_of c cells) header = values_same header units (units_of c cells) long agree in
      record {
        packet = ap (last_words c) same ∙ end.fields;
        touched = λ a. ap (λ vals. is_touching c vals a) same ∙ end.touched a;
        next = λ g u below less. after_same header units (units_of c cells) long agree g u below less ∙ end.units g u below less;
        has = exec_has_cells (names_of p) p.function.body (record { store = record { fields = header; cells = cells }; touched = sequential.untouched (names_of p) }) has;
        kept = λ a none. (end.ungrouped a none).1;
      }

  pub units_end : (headers : List (List ℤ)) (cells : List (List ℤ)) (units : Units) → AreWide c headers → HasCells (names_of p) cells → Agree units (units_of c cells)
      → Agree (units_over c units headers) (units_of c (run cells headers).cells)
  units_end [] cells units wide has agree = agree
  units_end (h ∷ hs) cells units wide has agree =
      let s : Steps h cells units = steps h cells units (front h hs wide) has agree in
      units_end hs (done h cells).store.cells (units_after c units h) (rest h hs wide) s.has s.next

  pub packets_end : (headers : List (List ℤ)) (cells : List (List ℤ)) (units : Units) → AreWide c headers → HasCells (names_of p) cells → Agree units (units_of c cells)
      → (t : ℕ) → t < length headers → last_words c (values_at c units headers t) ≡ slice_index_or (run cells headers).packets t []
  packets_end [] cells units wide has agree t less = absurd (omega (arith, less))
  packets_end (h ∷ hs) cells units wide has agree zero less = (steps h cells units (front h hs wide) has agree).packet
  packets_end (h ∷ hs) cells units wide has agree (suc t) less =
      let s : Steps h cells units = steps h cells units (front h hs wide) has agree in
      packets_end hs (done h cells).store.cells (units_after c units h) (rest h hs wide) s.has s.next t (omega (arith, less))

  pub touched_end : (headers : List (List ℤ)) (cells : List (List ℤ)) (units : Units) → AreWide c headers → HasCells (names_of p) cells → Agree units (units_of c cells)
      → (t a : ℕ) → t < length headers → is_touching c (values_at c units headers t) a ≡ slice_index_or (slice_index_or (run cells headers).touched t []) a false
  touched_end [] cells units wide has agree t a less = absurd (omega (arith, less))
  touched_end (h ∷ hs) cells units wide has agree zero a less = (steps h cells units (front h hs wide) has agree).touched a
  touched_end (h ∷ hs) cells units wide has agree (suc t) a less =
      let s : Steps h cells units = steps h cells units (front h hs wide) has agree in
      touched_end hs (done h cells).store.cells (units_after c units h) (rest h hs wide) s.has s.next t a (omega (arith, less))

  -- an array of no group keeps its cells
  pub kept_end : (headers : List (List ℤ)) (cells : List (List ℤ)) → AreWide c headers → HasCells (names_of p) cells → (a : ℕ) → group_of c a ≡ None → cells_at (run cells headers).cells a ≡ cells_at cells a
  kept_end [] cells wide has a none = refl
  kept_end (h ∷ hs) cells wide has a none =
      let s : Steps h cells (units_of c cells) = steps h cells (units_of c cells) (front h hs wide) has (λ g u below less. refl) in
      kept_end hs (done h cells).store.cells (rest h hs wide) s.has a none ∙ s.kept a none

  -- from the start cells on
  pub runs : (headers : List (List ℤ)) → AreWide c headers → ((g u : ℕ) → g < length c.groups → u < unit_count c (group_at c g) → units_of c (sequential.start_cells (names_of p)) g u ≡ start_units c g u)
      → ((a : ℕ) → a < length c.arrays → cells_at (sequential.start_cells (names_of p)) a ≡ replicate (flat_length c.arrays a) (start_of c.arrays a)) → RunsAsSource p c headers
  runs headers wide start rows =
      let cells : List (List ℤ) = sequential.start_cells (names_of p) in
      let has : HasCells (names_of p) cells = start_has_cells (names_of p) in
      let agree : Agree (start_units c) (units_of c cells) = λ g u below less. sym (start g u below less) in
      record {
        packets = packets_end headers cells (start_units c) wide has agree;
        touched = touched_end headers cells (start_units c) wide has agree;
        units = units_end headers cells (start_units c) wide has agree;
        rest = λ a below none. kept_end headers cells wide has a none ∙ rows a below;
      }
