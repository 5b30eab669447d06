-- The grammar derives the canonical tokens of a program to it.
use Rattle.std.proofs.Common.{◌≡◌, true, List, flat_map, ◌∷◌, [], inl, refl}
use Rattle.domino_tree.specs.declared.token.Token.TheVariants as token
use Rattle.domino_tree.specs.declared.program.Size.{Size}
use Rattle.domino_tree.specs.declared.program.Size.TheVariants as size
use Rattle.domino_tree.specs.declared.program.Start.{Start}
use Rattle.domino_tree.specs.declared.program.Start.TheVariants as start
use Rattle.domino_tree.specs.declared.program.Item.{Item}
use Rattle.domino_tree.specs.declared.program.Item.TheVariants as item
use Rattle.domino_tree.specs.declared.program.PacketDecl.{PacketDecl}
use Rattle.domino_tree.specs.declared.program.Function.{Function}
use Rattle.domino_tree.specs.declared.program.Program.{Program}
use Rattle.domino_tree.specs.Grammar.{size_tokens, start_tokens, item_tokens, program_tokens, is_program}
use Rattle.domino_tree.specs.Derives.{IsEntry, IsStart, IsItem, AreItems, none, more, Parts, Derives}

pub canonical_entry : (entry : Size) → IsEntry (size_tokens entry) entry
canonical_entry (size.Number n) = inl refl
canonical_entry (size.Word w) = refl

pub canonical_start : (value : Start) → IsStart (start_tokens value) value
canonical_start start.Absent = refl
canonical_start (start.Plain entry) = record { inner = size_tokens entry; spells = refl; entered = canonical_entry entry }
canonical_start (start.Braced entry) = record { inner = size_tokens entry; spells = refl; entered = canonical_entry entry }

pub canonical_item : (i : Item) → IsItem (item_tokens i) i
canonical_item (item.Define name value) = record { inner = token.Number value ∷ []; spells = refl; valued = inl refl }
canonical_item (item.Array name length value) = record { inner = start_tokens value; spells = refl; started = canonical_start value }

pub canonical_items : (items : List Item) → AreItems (flat_map item_tokens items) items
canonical_items [] = none
canonical_items (i ∷ items) = more (item_tokens i) i (flat_map item_tokens items) items (canonical_item i) (canonical_items items)

pub canonical_parts : (before : List Item) (packet : PacketDecl) (after : List Item) (function : Function) → is_program before packet after function ≡ true → Parts (program_tokens before packet after function) before packet after function
canonical_parts before packet after function stands = record {
  front = flat_map item_tokens before;
  middle = flat_map item_tokens after;
  spells = refl;
  items_before = canonical_items before;
  items_after = canonical_items after;
  stands = stands;
}

pub canonical : (p : Program) → Derives (program_tokens p.before p.packet p.after p.function) p
canonical p = canonical_parts p.before p.packet p.after p.function p.derived
