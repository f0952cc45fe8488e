-- The bytes of a found message are a part of the interchange. Assumes nothing.
use Rattle.std.specs.Prelude.{ℕ, ◌+◌, ◌-◌, ◌^◌, ◌≤◌, ◌<◌, List, Bool, true, false, length, ltb, Option, None, Some, Ok, Err}
use Rattle.std.proofs.Common.{arith, sym, ◌∙◌, subst, ltb-false, Fits}
use Rattle.std.proofs.Math.Path.{◌≡◌, refl, ap}
use Rattle.std.specs.Int.{w64}
use Rattle.numbers.specs.declared.Number.TheVariants as numbers
use Rattle.service.specs.declared.Service.{Service}
use Rattle.service.specs.declared.Characters.{Characters}
use Rattle.service.specs.Service.{characters_of}
use Rattle.service.specs.Tests.{if}
use Rattle.interchange.specs.declared.Span.{Span}
use Rattle.interchange.specs.Answers.{Found}
use Rattle.interchange.specs.Finds as found
use Rattle.interchange.specs.Messages.{found_from}
use Rattle.interchange.specs.Envelope.{refusal}
use Rattle.interchange.specs.Laws.WithinLaws.{Part, Within, part, none, broken, found_within}
use Rattle.lent.specs.Lists.{Lists}
use Rattle.report.specs.Answers.{Report}
use Rattle.walk.specs.Steps.{Walked}
use Rattle.walk.specs.Steps as walked
use Rattle.walk.specs.Frame.{message, refused, step_at, step_with, step_from}
use Rattle.walk.specs.Laws.FrameLaws.{one_start, one_end}
use Rattle.walk.specs.Walks.{Walks, walks_message, walks_nothing, walks_refused}

part_of : (s : List ℕ) (at : ℕ) (k : Found) → Within s at k → (a e : ℕ) → k ≡ found.Message a e → Part s at a e
part_of s at k (part a' e' p) a e q =
    let x = one_start a' e' a e q in
    let y = one_end a' e' a e q in record { after = omega (arith, p.after); order = omega (arith, p.order); within = omega (arith, p.within) }
part_of s at k none a e q = absurd (let z : ◌≡◌ {A = ℕ} 0 1 = cc in omega arith)
part_of s at k broken a e q = absurd (let z : ◌≡◌ {A = ℕ} 0 1 = cc in omega arith)

module _ (v : Service) (s : List ℕ) (at : ℕ) (k : Found) (c : k ≡ found_from v s at) (a e : ℕ) (q : k ≡ found.Message a e) where
  found_part : Part s at a e
  found_part = part_of s at k (subst (Within s at) (sym c) (found_within v s at)) a e q

-- ---- a message that a step of the walk finds: further on, within the bytes, which are at most 1,048,576
pub record Small (s : List ℕ) (at a e : ℕ) : Type 0 where
  pub after : at ≤ a
  pub order : a < e
  pub within : e ≤ length s
  pub short : length s ≤ 1048576

module _ (s : List ℕ) (at a e : ℕ) where
  small_past : length s ≤ 1048576 → (v : Service) (t : Bool) → message a e ≡ if t (refused (refusal numbers.Position)) (found_from v s at) → Small s at a e
  small_past h v true q = absurd (let z : ◌≡◌ {A = ℕ} 0 1 = cc in omega arith)
  small_past h v false q =
      let p = found_part v s at (found_from v s at) refl a e (sym q) in
      record { after = omega (arith, p.after); order = omega (arith, p.order); within = omega (arith, p.within); short = h }

  small_with : length s ≤ 1048576 → (k : Option Characters) → message a e ≡ step_with s at k → Small s at a e
  unfolding step_at
  small_with h (Some c) q = small_past h c.service (ltb (length s) at) q
  small_with h None q = absurd (let z : ◌≡◌ {A = ℕ} 0 1 = cc in omega arith)

  small_long : (t : Bool) → ltb 1048576 (length s) ≡ t → message a e ≡ if t (refused (refusal numbers.TooLong)) (step_with s at (characters_of s)) → Small s at a e
  small_long true l q = absurd (let z : ◌≡◌ {A = ℕ} 0 1 = cc in omega arith)
  small_long false l q = small_with (ltb-false 1048576 (length s) l) (characters_of s) q

  pub found_small : message a e ≡ step_from s at → Small s at a e
  unfolding step_from
  found_small q = small_long (ltb 1048576 (length s)) refl q

-- ---- where a message lies, of the walk's answer
abbrev from_of : Walked → ℕ
from_of (Ok (Some m)) = m.start
from_of (Ok None) = 0
from_of (Err f) = 0

abbrev to_of : Walked → ℕ
to_of (Ok (Some m)) = m.end
to_of (Ok None) = 0
to_of (Err f) = 0

pub walked_start : (b c : ℕ) (z : Report) (a e : ℕ) (y : Report) → walked.Message b c z ≡ walked.Message a e y → b ≡ a
walked_start b c z a e y q = ap from_of q

abbrev report_in : Report → Walked → Report
report_in d (Ok (Some m)) = m.report
report_in d (Ok None) = d
report_in d (Err f) = d

pub walked_report : (b c : ℕ) (z : Report) (a e : ℕ) (y : Report) → walked.Message b c z ≡ walked.Message a e y → z ≡ y
walked_report b c z a e y q = ap (report_in z) q

pub walked_end : (b c : ℕ) (z : Report) (a e : ℕ) (y : Report) → walked.Message b c z ≡ walked.Message a e y → c ≡ e
walked_end b c z a e y q = ap to_of q

walk_by : (s : List ℕ) (at : ℕ) (x x' : Lists) (k : Walked) → Walks s at x x' k → (a e : ℕ) (y : Report) → k ≡ walked.Message a e y → Small s at a e
walk_by s at x x' k (walks_message v una b c z n p w) a e y q =
    let i = walked_start b c z a e y q in
    let j = walked_end b c z a e y q in
    let f = found_small s at b c p in
    record { after = omega (arith, f.after); order = omega (arith, f.order); within = omega (arith, f.within); short = f.short }
walk_by s at x x' k (walks_nothing p w) a e y q = absurd (let z : ◌≡◌ {A = ℕ} 0 1 = cc in omega arith)
walk_by s at x x' k (walks_refused f p w) a e y q = absurd (let z : ◌≡◌ {A = ℕ} 0 1 = cc in omega arith)

module _ (s : List ℕ) (at : ℕ) (x x' : Lists) (k : Walked) (w : Walks s at x x' k) (a e : ℕ) (y : Report) (q : k ≡ walked.Message a e y) where
  pub walk_small : Small s at a e
  walk_small = walk_by s at x x' k w a e y q

  -- a loop over the messages ends
  pub walk_less : length s - e < length s - at
  walk_less = let p = walk_small in omega arith

  -- a count that is at most the position
  pub walk_count : (c : ℕ) → c ≤ at → c + 1 ≤ e
  walk_count c h = let p = walk_small in omega arith

  pub walk_count_fits : (c : ℕ) → c ≤ at → length s < 2 ^ 64 → Fits w64 (c + 1)
  walk_count_fits c h f = let p = walk_small in omega arith

  pub walk_add : (c d : ℕ) → c ≤ at → d ≤ 1 → c + d ≤ e
  walk_add c d h l = let p = walk_small in omega arith

  pub walk_add_fits : (c d : ℕ) → c ≤ at → d ≤ 1 → length s < 2 ^ 64 → Fits w64 (c + d)
  walk_add_fits c d h l f = let p = walk_small in omega arith

-- ---- a message that was found is a part of the bytes
part_by : (v : Service) (s : List ℕ) (at a e : ℕ) (t : Bool) → message a e ≡ if t (refused (refusal numbers.Position)) (found_from v s at) → Part s at a e
part_by v s at a e true q = absurd (let z : ◌≡◌ {A = ℕ} 0 1 = cc in omega arith)
part_by v s at a e false q = found_part v s at (found_from v s at) refl a e (sym q)

module _ (v : Service) (s : List ℕ) (at : ℕ) (k : Found) (c : k ≡ step_at v s at) (o : Option Span) (d : k ≡ Ok o) (m : Span) (q : o ≡ Some m) where
  pub sought : message m.start m.end ≡ step_at v s at
  sought = sym (ap Ok q) ∙ sym d ∙ c

  part_sought : Part s at m.start m.end
  unfolding step_at
  part_sought = part_by v s at m.start m.end (ltb (length s) at) sought

  pub part_order : m.start ≤ m.end
  part_order = let p = part_sought in omega (arith, p.order)

  pub part_within : m.end ≤ length s
  part_within = let p = part_sought in omega (arith, p.within)
