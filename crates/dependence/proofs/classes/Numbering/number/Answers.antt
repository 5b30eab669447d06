use Rattle.std.proofs.Common.{◌∙◌, subst}
use Rattle.dependence.specs.Classes.{IsKey}
use Rattle.dependence.proofs.ClassLemmas.{again, alone, first}
use Rattle.dependence.proofs.classes.Numbering.number.Goals as goal

pub returns-in_default : goal.returns-in_default
returns-in_default c = λ keys numbers h e. rw c.fresh.ensures.number (rw c.fresh.ensures.next (alone keys numbers _ h (e ∙ c.in_default.is)))

pub returns-in-Some-firsts : goal.returns-in-Some-firsts
returns-in-Some-firsts c = λ keys numbers h e.
    again keys numbers _ _ _ h (e ∙ c.in-Some.is) (subst IsKey c.in-Some.is c.requires.key) c.in-Some-firsts.is

pub returns : goal.returns
returns c = λ keys numbers h e.
    rw c.fresh-number.ensures.number (rw c.fresh-number.ensures.next
    (first keys numbers _ _ h (e ∙ c.in-Some.is) (subst IsKey c.in-Some.is c.requires.key) c.in_default-firsts.is))
