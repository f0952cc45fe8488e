-- The rules stand in the order of their ranks.
use Rattle.std.specs.Prelude.{ℕ, List}
use Rattle.std.proofs.Common.{arith}
use Rattle.message.specs.Segs.{Seg}
use Rattle.message.specs.Advices.{debmul_of}
use Rattle.message.specs.Faults.{rank}
use Rattle.message.proofs.Laws.FaultLaws.{Rising}

pub rising : (k : ℕ) (m : List Seg) → Rising 0 (debmul_of k m)
unfolding rank
rising k m = omega arith
