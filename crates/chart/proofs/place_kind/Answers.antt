-- The table of each kind passes the tests.
use Rattle.chart.proofs.Tables.{sound_as}
use Rattle.chart.proofs.place_kind.Goals as goal

pub place_all-requires : goal.place_all-requires
place_all-requires c = sound_as c.args.kind c.table.result.now c.table.ensures
