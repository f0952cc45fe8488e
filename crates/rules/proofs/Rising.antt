-- The rules stand in the order of their ranks.
use Rattle.std.specs.Prelude.{ℕ, List}
use Rattle.std.proofs.Common.{arith}
use Rattle.message.specs.Segs.{Seg}
use Rattle.message.specs.Rules.{paymul_of}
use Rattle.message.specs.Faults.{rank}
use Rattle.message.proofs.Laws.FaultLaws.{Rising}

pub rising : (k n : ℕ) (m : List Seg) → Rising 0 (paymul_of k n m)
unfolding rank
rising k n m = omega arith
