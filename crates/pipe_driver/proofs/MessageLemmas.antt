-- Lists of messages and the phantoms among them.
use Rattle.std.proofs.Common.{◌≡◌, ℕ, zero, suc, ◌+◌, ◌*◌, ◌<◌, List, [], ◌∷◌, ◌++◌, length, length-append, refl, sym, ap, subst, ◌∙◌, arith}
use Rattle.std.proofs.lemmas.List.{append_assoc, append-nil}
use Rattle.run_laws.specs.Run.{Run, arrivals}
use Rattle.pipe_messages.specs.declared.message.Message.{Message}
use Rattle.pipe_messages.specs.declared.message.Message.TheVariants.{Phantom, Packet, Cell, Home}
use Rattle.pipe_messages.specs.Messages.{IsMessage, IsNextPhantom, announced_by, phantoms_in, own_arrivals}
use Rattle.std.specs.List.{All}
use Rattle.std.proofs.lemmas.List.Elements.{All-push}

pub phantoms_in-append : (xs ys : List Message) → phantoms_in (xs ++ ys) ≡ phantoms_in xs ++ phantoms_in ys
phantoms_in-append [] ys = refl
phantoms_in-append (m ∷ xs) ys = ap (λ ts. announced_by m ++ ts) (phantoms_in-append xs ys) ∙ sym (append_assoc (announced_by m) (phantoms_in xs) (phantoms_in ys))

-- the phantoms of a message more
pub phantoms_more : (xs : List Message) (m : Message) → phantoms_in (xs ++ m ∷ []) ≡ phantoms_in xs ++ announced_by m
phantoms_more xs m = phantoms_in-append xs (m ∷ []) ∙ ap (λ ts. phantoms_in xs ++ ts) (append-nil (announced_by m))

pub phantom_count : (xs : List Message) (m : Message) → length (phantoms_in (xs ++ m ∷ [])) ≡ length (phantoms_in xs) + length (announced_by m)
phantom_count xs m = ap length (phantoms_more xs m) ∙ length-append (phantoms_in xs) (announced_by m)

pub quiet_more : (xs : List Message) (m : Message) → announced_by m ≡ [] → phantoms_in (xs ++ m ∷ []) ≡ phantoms_in xs
quiet_more xs m quiet = phantoms_more xs m ∙ ap (λ ts. phantoms_in xs ++ ts) quiet ∙ append-nil (phantoms_in xs)

-- one own arrival more
own_more : (run : Run) (pipe from n : ℕ) → own_arrivals run pipe from (suc n) ≡ own_arrivals run pipe from n ++ (pipe + (from + n) * run.settings.pipelines) ∷ []
own_more run pipe from zero = ap (λ k. (pipe + k * run.settings.pipelines) ∷ []) (omega arith)
own_more run pipe from (suc n) =
    ap (λ ts. (pipe + from * run.settings.pipelines) ∷ ts)
    (own_more run pipe (from + 1) n ∙ ap (λ k. own_arrivals run pipe (from + 1) n ++ (pipe + k * run.settings.pipelines) ∷ []) (omega arith))

-- the phantoms are those of own arrivals in order
abbrev pub InOrder : Run → ℕ → List Message → Type 0
InOrder run p ms = phantoms_in ms ≡ own_arrivals run p 0 (length (phantoms_in ms))

-- a message that is no phantom changes nothing
order_quiet : (run : Run) (p : ℕ) (ms : List Message) (m : Message) → announced_by m ≡ [] → InOrder run p ms → InOrder run p (ms ++ m ∷ [])
order_quiet run p ms m quiet order = let same = quiet_more ms m quiet in same ∙ order ∙ ap (λ ts. own_arrivals run p 0 (length ts)) (sym same)

-- and are so with a message more that comes next
pub order_more : (run : Run) (p : ℕ) (ms : List Message) (m : Message) → IsNextPhantom run p ms m → InOrder run p ms → InOrder run p (ms ++ m ∷ [])
order_more run p ms (Phantom t units) next order =
    let more : phantoms_in (ms ++ Phantom t units ∷ []) ≡ phantoms_in ms ++ t ∷ [] = phantoms_more ms (Phantom t units) in
    let long : length (phantoms_in (ms ++ Phantom t units ∷ [])) ≡ suc (length (phantoms_in ms)) = (let count = phantom_count ms (Phantom t units) in omega arith) in
    let at : t ≡ p + (0 + length (phantoms_in ms)) * run.settings.pipelines = next ∙ ap (λ n. p + n * run.settings.pipelines) (omega arith) in
    (more ∙ (λ i. order i ++ at i ∷ []) ∙ sym (own_more run p 0 (length (phantoms_in ms))) ∙ ap (own_arrivals run p 0) (sym long))
order_more run p ms (Packet t g env by touched) next order = order_quiet run p ms (Packet t g env by touched) refl order
order_more run p ms (Cell g u round unit) next order = order_quiet run p ms (Cell g u round unit) refl order
order_more run p ms (Home t env by touched) next order = order_quiet run p ms (Home t env by touched) refl order

-- all of them are arrivals of the run
pub early_more : (run : Run) (from to : ℕ) (ms : List Message) (m : Message) → IsMessage run from to m → All (λ t. t < arrivals run) (phantoms_in ms) → All (λ t. t < arrivals run) (phantoms_in (ms ++ m ∷ []))
early_more run from to ms (Phantom t units) law early = subst (All (λ k. k < arrivals run)) (sym (phantoms_more ms (Phantom t units))) (All-push (λ k. k < arrivals run) (phantoms_in ms) t early law.arrival)
early_more run from to ms (Packet t g env by touched) law early = subst (All (λ k. k < arrivals run)) (sym (quiet_more ms (Packet t g env by touched) refl)) early
early_more run from to ms (Cell g u round unit) law early = subst (All (λ k. k < arrivals run)) (sym (quiet_more ms (Cell g u round unit) refl)) early
early_more run from to ms (Home t env by touched) law early = subst (All (λ k. k < arrivals run)) (sym (quiet_more ms (Home t env by touched) refl)) early
