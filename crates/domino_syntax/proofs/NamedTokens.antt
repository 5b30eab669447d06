-- Each name among the canonical tokens of a program is a name.
use Rattle.std.proofs.Common.{◌≡◌, ℕ, suc, nat_eq, nat_le, true, ◌&&◌, List, [], ◌∷◌, ◌++◌, map, flat_map, Option, Some, None, refl, sym, ap, ◌∙◌}
use Rattle.std.proofs.lemmas.Bool.{and_parts, and_from}
use Rattle.std.proofs.lemmas.List.Folds.{list_all-append}
use Rattle.std.specs.List.{list_all}
use Rattle.mp5_words.specs.declared.op.Op1.{Op1}
use Rattle.mp5_words.specs.declared.op.Op2.{Op2}
use Rattle.domino_tree.specs.declared.token.Token.{Token}
use Rattle.domino_tree.specs.declared.token.Token.TheVariants as token
use Rattle.domino_tree.specs.declared.token.Keyword.TheVariants as keyword
use Rattle.domino_tree.specs.declared.token.Sign.{Sign}
use Rattle.domino_tree.specs.declared.token.Sign.TheVariants as sign
use Rattle.domino_tree.specs.declared.expr.Expr.{Expr}
use Rattle.domino_tree.specs.declared.expr.Expr.TheVariants as e
use Rattle.domino_tree.specs.declared.program.Size.{Size}
use Rattle.domino_tree.specs.declared.program.Size.TheVariants as size
use Rattle.domino_tree.specs.declared.program.Start.{Start}
use Rattle.domino_tree.specs.declared.program.Start.TheVariants as start
use Rattle.domino_tree.specs.declared.program.Item.{Item}
use Rattle.domino_tree.specs.declared.program.Item.TheVariants as item
use Rattle.domino_tree.specs.declared.program.PacketDecl.{PacketDecl}
use Rattle.domino_tree.specs.declared.program.Target.{Target}
use Rattle.domino_tree.specs.declared.program.Target.TheVariants as target
use Rattle.domino_tree.specs.declared.program.Stmt.{Stmt}
use Rattle.domino_tree.specs.declared.program.Stmt.TheVariants as s
use Rattle.domino_tree.specs.declared.program.Arm.{Arm}
use Rattle.domino_tree.specs.declared.program.Function.{Function}
use Rattle.domino_tree.specs.Grammar.{is_name, in_square, in_round, in_curly, block_tokens, with_commas, separated, field_tokens, spelled, stands, target_tokens, is_target, with_elses, chained, last_block, stmt_tokens, arm_tokens, all_true, has_arm, is_stmt, is_arm, size_tokens, is_size, length_tokens, is_length, start_tokens, is_start, declaration, item_tokens, is_item, packet_tokens, is_packet, function_tokens, is_function, program_tokens, is_program}
use Rattle.domino_tree.specs.Operators.{sign_of, level}
use Rattle.domino_tree.proofs.ExprLemmas as x
use Rattle.domino_tree.proofs.ExprLemmas.{Each}
use Rattle.domino_tree.proofs.StmtLemmas as y
use Rattle.domino_syntax.specs.Tokens.{is_token}

abbrev Named : List Token → Type 0
Named tokens = list_all is_token tokens ≡ true

append : (xs ys : List Token) → Named xs → Named ys → Named (xs ++ ys)
append xs ys h k = list_all-append is_token xs ys ∙ and_from (list_all is_token xs) (list_all is_token ys) h k

-- a sign at the end
closed : (xs : List Token) (z : Sign) → Named xs → Named (xs ++ token.Sign z ∷ [])
closed xs z h = append xs (token.Sign z ∷ []) h refl

named : (w : List ℕ) (xs : List Token) → is_name w ≡ true → Named xs → Named (token.Name w ∷ xs)
named w xs h k = and_from (is_name w) (list_all is_token xs) h k

two_names : (p f : List ℕ) → (is_name p && is_name f) ≡ true → Named (field_tokens p f)
two_names p f h =
    let parts = and_parts (is_name p) (is_name f) h in
    named p (token.Sign sign.Dot ∷ token.Name f ∷ []) parts.0 (named f [] parts.1 refl)

-- ---- expressions

abbrev Spells : Expr → Type 0
Spells a = (k : ℕ) → stands a k ≡ true → Named (spelled a)

commas : (args : List Expr) → Each Spells args → list_all (λ a. a 0) (map stands args) ≡ true → Named (with_commas (map spelled args))
commas [] each h = refl
commas (a ∷ args) each h =
    let parts = and_parts (stands a 0) (list_all (λ b. b 0) (map stands args)) h in
    append (spelled a) (with_commas (map spelled args)) (each.0 0 parts.0) (commas args each.1 parts.1)

arguments : (args : List Expr) → Each Spells args → list_all (λ a. a 0) (map stands args) ≡ true → Named (separated (map spelled args))
arguments [] each h = refl
arguments (a ∷ args) each h =
    let parts = and_parts (stands a 0) (list_all (λ b. b 0) (map stands args)) h in
    append (spelled a) (with_commas (map spelled args)) (each.0 0 parts.0) (commas args each.1 parts.1)

named-Cell : (a : List ℕ) (i : Expr) → Spells i → Spells (e.Cell a i)
named-Cell a i h k stood =
    let parts = and_parts (is_name a) (stands i 0) (sym (x.stands-Cell a i k) ∙ stood) in
    ap (list_all is_token) (x.spelled-Cell a i) ∙ named a (in_square (spelled i)) parts.0 (closed (spelled i) sign.CloseSquare (h 0 parts.1))

named-One : (op : Op1) (a : Expr) → Spells a → Spells (e.One op a)
named-One op a h k stood =
    let parts = and_parts (nat_le k 11) (stands a 11) (sym (x.stands-One op a k) ∙ stood) in
    ap (list_all is_token) (x.spelled-One op a) ∙ h 11 parts.1

named-Two : (op : Op2) (a b : Expr) → Spells a → Spells b → Spells (e.Two op a b)
named-Two op a b left right k stood =
    let parts = and_parts (nat_le k (level op)) (stands a (level op) && stands b (suc (level op))) (sym (x.stands-Two op a b k) ∙ stood) in
    let operands = and_parts (stands a (level op)) (stands b (suc (level op))) parts.1 in
    ap (list_all is_token) (x.spelled-Two op a b) ∙ append (spelled a) (token.Sign (sign_of op) ∷ spelled b) (left (level op) operands.0) (right (suc (level op)) operands.1)

named-Pick : (c a b : Expr) → Spells c → Spells a → Spells b → Spells (e.Pick c a b)
named-Pick c a b test left right k stood =
    let parts = and_parts (nat_eq k 0) (stands c 1 && (stands a 0 && stands b 0)) (sym (x.stands-Pick c a b k) ∙ stood) in
    let three = and_parts (stands c 1) (stands a 0 && stands b 0) parts.1 in
    let two = and_parts (stands a 0) (stands b 0) three.1 in
    ap (list_all is_token) (x.spelled-Pick c a b) ∙ append (spelled c) (token.Sign sign.Question ∷ (spelled a ++ (token.Sign sign.Colon ∷ spelled b))) (test 1 three.0) (append (spelled a) (token.Sign sign.Colon ∷ spelled b) (left 0 two.0) (right 0 two.1))

named-Call : (f : List ℕ) (args : List Expr) → Each Spells args → Spells (e.Call f args)
named-Call f args each k stood =
    let parts = and_parts (is_name f) (list_all (λ a. a 0) (map stands args)) (sym (x.stands-Call f args k) ∙ stood) in
    ap (list_all is_token) (x.spelled-Call f args) ∙ named f (in_round (separated (map spelled args))) parts.0 (closed (separated (map spelled args)) sign.CloseRound (arguments args each parts.1))

expr_named : (a : Expr) → Spells a
expr_named = x.induct Spells
    (λ n k h. ap (list_all is_token) (x.spelled-Number n))
    (λ w k h. ap (list_all is_token) (x.spelled-Word w) ∙ named w [] (sym (x.stands-Word w k) ∙ h) refl)
    (λ p f k h. ap (list_all is_token) (x.spelled-Field p f) ∙ two_names p f (sym (x.stands-Field p f k) ∙ h))
    named-Cell named-One named-Two named-Pick named-Call
    (λ a h k stood. ap (list_all is_token) (x.spelled-Group a) ∙ closed (spelled a) sign.CloseRound (h 0 (sym (x.stands-Group a k) ∙ stood)))

-- ---- statements

target_named : (t : Target) → is_target t ≡ true → Named (target_tokens t)
target_named (target.Word w) h = named w [] h refl
target_named (target.Field p f) h = two_names p f h
target_named (target.Cell a i) h =
    let parts = and_parts (is_name a) (stands i 0) h in
    named a (in_square (spelled i)) parts.0 (closed (spelled i) sign.CloseSquare (expr_named i 0 parts.1))

abbrev StmtSpells : Stmt → Type 0
StmtSpells a = is_stmt a ≡ true → Named (stmt_tokens a)

abbrev ArmSpells : Arm → Type 0
ArmSpells a = is_arm a ≡ true → Named (arm_tokens a)

statements_named : (body : List Stmt) → Each StmtSpells body → all_true (map is_stmt body) ≡ true → Named (flat_map (λ tokens. tokens) (map stmt_tokens body))
statements_named [] each h = refl
statements_named (a ∷ body) each h =
    let parts = and_parts (is_stmt a) (all_true (map is_stmt body)) h in
    append (stmt_tokens a) (flat_map (λ tokens. tokens) (map stmt_tokens body)) (each.0 parts.0) (statements_named body each.1 parts.1)

block_named : (body : List Stmt) → Each StmtSpells body → all_true (map is_stmt body) ≡ true → Named (block_tokens (map stmt_tokens body))
block_named body each h = closed (flat_map (λ tokens. tokens) (map stmt_tokens body)) sign.CloseCurly (statements_named body each h)

elses_named : (arms : List Arm) → Each ArmSpells arms → all_true (map is_arm arms) ≡ true → Named (with_elses (map arm_tokens arms))
elses_named [] each h = refl
elses_named (a ∷ arms) each h =
    let parts = and_parts (is_arm a) (all_true (map is_arm arms)) h in
    append (arm_tokens a) (with_elses (map arm_tokens arms)) (each.0 parts.0) (elses_named arms each.1 parts.1)

chain_named : (arms : List Arm) → Each ArmSpells arms → all_true (map is_arm arms) ≡ true → Named (chained (map arm_tokens arms))
chain_named [] each h = refl
chain_named (a ∷ arms) each h =
    let parts = and_parts (is_arm a) (all_true (map is_arm arms)) h in
    append (arm_tokens a) (with_elses (map arm_tokens arms)) (each.0 parts.0) (elses_named arms each.1 parts.1)

named-Set : (t : Target) (v : Expr) → StmtSpells (s.Set t v)
named-Set t v h =
    let parts = and_parts (is_target t) (stands v 0) (sym (y.is_stmt-Set t v) ∙ h) in
    ap (list_all is_token) (y.stmt_tokens-Set t v) ∙ append (target_tokens t) (token.Sign sign.Assign ∷ (spelled v ++ (token.Sign sign.Semicolon ∷ []))) (target_named t parts.0) (closed (spelled v) sign.Semicolon (expr_named v 0 parts.1))

named-If : (arms : List Arm) → Each ArmSpells arms → StmtSpells (s.If arms None)
named-If arms each h =
    let parts = and_parts (has_arm (map is_arm arms)) (all_true (map is_arm arms) && true) (sym (y.is_stmt-If arms) ∙ h) in
    let all = and_parts (all_true (map is_arm arms)) true parts.1 in
    ap (list_all is_token) (y.stmt_tokens-If arms) ∙ append (chained (map arm_tokens arms)) [] (chain_named arms each all.0) refl

named-Else : (arms : List Arm) (body : List Stmt) → Each ArmSpells arms → Each StmtSpells body → StmtSpells (s.If arms (Some body))
named-Else arms body each each_body h =
    let parts = and_parts (has_arm (map is_arm arms)) (all_true (map is_arm arms) && all_true (map is_stmt body)) (sym (y.is_stmt-Else arms body) ∙ h) in
    let all = and_parts (all_true (map is_arm arms)) (all_true (map is_stmt body)) parts.1 in
    ap (list_all is_token) (y.stmt_tokens-Else arms body) ∙ append (chained (map arm_tokens arms)) (last_block (Some (map stmt_tokens body))) (chain_named arms each all.0) (block_named body each_body all.1)

named-Arm : (cond : Expr) (body : List Stmt) → Each StmtSpells body → ArmSpells (record { cond = cond; body = body })
named-Arm cond body each h =
    let parts = and_parts (stands cond 0) (all_true (map is_stmt body)) (sym (y.is_arm-Arm cond body) ∙ h) in
    ap (list_all is_token) (y.arm_tokens-Arm cond body) ∙ append (in_round (spelled cond)) (block_tokens (map stmt_tokens body)) (closed (spelled cond) sign.CloseRound (expr_named cond 0 parts.0)) (block_named body each parts.1)

stmt_named : (a : Stmt) → StmtSpells a
stmt_named = y.induct StmtSpells ArmSpells named-Set named-If named-Else named-Arm

each_named : (body : List Stmt) → Each StmtSpells body
each_named [] = tt
each_named (a ∷ body) = (stmt_named a, each_named body)

-- ---- declarations

size_named : (z : Size) → is_size z ≡ true → Named (size_tokens z)
size_named (size.Number n) h = refl
size_named (size.Word w) h = named w [] h refl

length_named : (z : Option Size) → is_length z ≡ true → Named (length_tokens z)
length_named None h = refl
length_named (Some z) h = closed (size_tokens z) sign.CloseSquare (size_named z h)

start_named : (z : Start) → is_start z ≡ true → Named (start_tokens z)
start_named start.Absent h = refl
start_named (start.Plain z) h = size_named z h
start_named (start.Braced z) h = closed (size_tokens z) sign.CloseCurly (size_named z h)

declaration_named : (w : List ℕ) (more : List Token) → is_name w ≡ true → Named more → Named (declaration w more)
declaration_named w more h k = named w (more ++ (token.Sign sign.Semicolon ∷ [])) h (closed more sign.Semicolon k)

item_named : (i : Item) → is_item i ≡ true → Named (item_tokens i)
item_named (item.Define w value) h = named w (token.Number value ∷ []) h refl
item_named (item.Array w length value) h =
    let parts = and_parts (is_name w) (is_length length && is_start value) h in
    let rest = and_parts (is_length length) (is_start value) parts.1 in
    declaration_named w (length_tokens length ++ start_tokens value) parts.0 (append (length_tokens length) (start_tokens value) (length_named length rest.0) (start_named value rest.1))

items_named : (items : List Item) → list_all is_item items ≡ true → Named (flat_map item_tokens items)
items_named [] h = refl
items_named (i ∷ items) h =
    let parts = and_parts (is_item i) (list_all is_item items) h in
    append (item_tokens i) (flat_map item_tokens items) (item_named i parts.0) (items_named items parts.1)

fields_named : (fields : List (List ℕ)) → list_all is_name fields ≡ true → Named (flat_map (λ w. declaration w []) fields)
fields_named [] h = refl
fields_named (w ∷ fields) h =
    let parts = and_parts (is_name w) (list_all is_name fields) h in
    append (declaration w []) (flat_map (λ w. declaration w []) fields) (declaration_named w [] parts.0 refl) (fields_named fields parts.1)

packet_named : (p : PacketDecl) → is_packet p ≡ true → Named (packet_tokens p)
packet_named p h =
    let parts = and_parts (is_name p.name) (list_all is_name p.fields) h in
    let fields : List Token = flat_map (λ w. declaration w []) p.fields in
    named p.name (in_curly fields ++ (token.Sign sign.Semicolon ∷ [])) parts.0 (closed (in_curly fields) sign.Semicolon (closed fields sign.CloseCurly (fields_named p.fields parts.1)))

function_named : (f : Function) → is_function f ≡ true → Named (function_tokens f)
function_named f h =
    let one = and_parts (is_name f.name) (is_name f.of && (is_name f.packet && all_true (map is_stmt f.body))) h in
    let two = and_parts (is_name f.of) (is_name f.packet && all_true (map is_stmt f.body)) one.1 in
    let three = and_parts (is_name f.packet) (all_true (map is_stmt f.body)) two.1 in
    let block : List Token = block_tokens (map stmt_tokens f.body) in
    let packet : Named (token.Name f.packet ∷ token.Sign sign.CloseRound ∷ block) = named f.packet (token.Sign sign.CloseRound ∷ block) three.0 (block_named f.body (each_named f.body) three.1) in
    named f.name (in_round (token.Keyword keyword.Struct ∷ token.Name f.of ∷ token.Name f.packet ∷ []) ++ block) one.0 (named f.of (token.Name f.packet ∷ token.Sign sign.CloseRound ∷ block) two.0 packet)

-- each name among the tokens of a program is a name
pub program_named : (before : List Item) (packet : PacketDecl) (after : List Item) (function : Function) → is_program before packet after function ≡ true → list_all is_token (program_tokens before packet after function) ≡ true
program_named before packet after function h =
    let one = and_parts (list_all is_item before) (is_packet packet && (list_all is_item after && is_function function)) h in
    let two = and_parts (is_packet packet) (list_all is_item after && is_function function) one.1 in
    let three = and_parts (list_all is_item after) (is_function function) two.1 in
    append (flat_map item_tokens before) (packet_tokens packet ++ (flat_map item_tokens after ++ function_tokens function)) (items_named before one.0)
    (append (packet_tokens packet) (flat_map item_tokens after ++ function_tokens function) (packet_named packet two.0)
    (append (flat_map item_tokens after) (function_tokens function) (items_named after three.0) (function_named function three.1)))
