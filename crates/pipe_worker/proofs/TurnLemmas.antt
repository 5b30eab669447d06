-- Kinds of events that are tried one after another.
use Rattle.std.proofs.Common.{◌≡◌, ℕ, Bool, true, false, sym, subst, ◌∙◌, IsTrue, IsFalse}
use Rattle.place_queue.specs.declared.place.Place.{Place}
use Rattle.pipe_parts.specs.declared.packet.Packet.{Packet as PacketHere}
use Rattle.packet_steps.specs.declared.heading.Heading.{Heading}
use Rattle.pipe_worker.specs.Pipe.{Pipe}
use Rattle.pipe_worker.specs.Events.{CanEnter, CanStep, CanServe, CanLeave, IsEventReady, IsOneEvent}
use Rattle.pipe_worker.specs.Events.IsEventReady.{enter, step, serve, leave}

-- what isn't ready where a kind of events wasn't done
abbrev pub NoService : Pipe → Type 0
NoService s = (g : ℕ) (place : Place) (p : PacketHere) → CanServe s g place p → ⊥

abbrev pub NoStep : Pipe → Type 0
NoStep s = (p : PacketHere) (heading : Heading) (line : ℕ) → CanStep s p heading line → ⊥

abbrev pub NoEntry : Pipe → Type 0
NoEntry s = CanEnter s → ⊥

abbrev pub NoLeave : Pipe → Type 0
NoLeave s = (g : ℕ) → CanLeave s g → ⊥

-- one event was done, or none of these is ready and nothing changed
pub record Tried (old new : Pipe) (result : Bool) (None : Pipe → Type 0) : Type 0 where
  pub did : IsTrue result → IsOneEvent old new
  pub not : IsFalse result → None old
  pub kept : IsFalse result → new ≡ old

-- nothing more is tried where one was done
pub stays : (s t u : Pipe) (a b : Bool) (N M : Pipe → Type 0) → Tried s t a N → a ≡ true → u ≡ t → b ≡ a → Tried s u b (λ x. N x × M x)
stays s t u a b N M h was same still = record {
  did = λ e. subst (IsOneEvent s) (sym same) (h.did was);
  not = λ e. absurd (cc);
  kept = λ e. absurd (cc);
}

-- another kind is tried where none was done
pub goes_on : (s t v u : Pipe) (a r b : Bool) (N M : Pipe → Type 0) → Tried s t a N → a ≡ false → Tried t v r M → u ≡ v → b ≡ r → Tried s u b (λ x. N x × M x)
goes_on s t v u a r b N M h was k same still = record {
  did = λ e. subst (λ x. IsOneEvent x u) (h.kept was) (subst (IsOneEvent t) (sym same) (k.did (sym still ∙ e)));
  not = λ e. (h.not was, subst M (h.kept was) (k.not (sym still ∙ e)));
  kept = λ e. same ∙ k.kept (sym still ∙ e) ∙ h.kept was;
}

-- none is ready of any kind
pub none_ready : (s : Pipe) → NoService s → NoStep s → NoEntry s → NoLeave s → IsEventReady s → ⊥
none_ready s a b c d (enter can) = c can
none_ready s a b c d (step p heading line can) = b p heading line can
none_ready s a b c d (serve g place p can) = a g place p can
none_ready s a b c d (leave g can) = d g can
