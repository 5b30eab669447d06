-- When a read may fail.
use Rattle.std.specs.Prelude.{ℕ, List, Result, IsErrOf}
use Rattle.switch_runner.specs.Outside.{StoreView, ChangesOnly, Rose}
use Rattle.switch_runner.specs.declared.outside.StoreFault.{StoreFault}
use Rattle.switch_runner.specs.declared.outside.StoreFault.TheVariants.{Failed as ReadFailed}

-- a read of this name: the store is as it was but for the name's count, and a read fails only where that rose
pub record Reads {T : Type 0} (name : List ℕ) (old new : StoreView) (result : Result T StoreFault) : Type 0 where
  pub only : ChangesOnly name old new
  pub failed : IsErrOf result ReadFailed → Rose (old.faults name) (new.faults name)
