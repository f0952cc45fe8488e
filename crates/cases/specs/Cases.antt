-- The twelve rows of document 01, "Cases", under one statement: rows 1 to 8 of values, 9 to 11 of whole messages, 12 of rewriting; and a row for W-202.
use Rattle.values.specs.Cases as values
use Rattle.rewrite.specs.Cases as rewrite
use Rattle.cases.specs.MessageCases.{Row9, Row10, Row11, Row13}

pub record Cases : Type 0 where
  pub one : values.Row1
  pub two : values.Row2
  pub three : values.Row3
  pub four : values.Row4
  pub five : values.Row5
  pub six : values.Row6
  pub seven : values.Row7
  pub eight : values.Row8
  pub nine : Row9
  pub ten : Row10
  pub eleven : Row11
  pub twelve : rewrite.Row12
  -- W-202, of values and of a whole message
  pub thirteen : values.Row13 × Row13
