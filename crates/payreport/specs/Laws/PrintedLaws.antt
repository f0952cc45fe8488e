-- The program's steps by these lines. Assumes nothing.
use Rattle.std.specs.Prelude.{ℕ, ◌+◌, ◌-◌, ◌^◌, ◌≤◌, ◌<◌, ◌≡◌, refl, List, [], ◌++◌, length, take, None, Some, Ok, Err, OnOk, IfSome}
use Rattle.std.specs.Option.{unwrap_or}
use Rattle.std.specs.Result.{result_and}
use Rattle.std.specs.Fn.{Once, FnOnceReturnsAtMut}
use Rattle.std.specs.Io.KnownBytes.{Appends, Consumes, IsAtEnd}
use Rattle.std.specs.declared.result.Result.{Result}
use Rattle.std.specs.declared.option.Option.{Option}
use Rattle.std.proofs.Math.Decide.{dec_lt}
use Rattle.std.specs.Int.{w64}
use Rattle.std.proofs.Common.{MutBor, Fits, arith, sym, ap, ◌∙◌, subst, append_assoc, append-nil, length-append, length-take-le}
use Rattle.interchange.specs.Answers.{Refusal}
use Rattle.interchange.specs.declared.Closing as code
use Rattle.interchange.specs.Answers.{Closing}
use Rattle.interchange.specs.Answers as opening
use Rattle.numbers.specs.Table.{table_number, number_told}
use Rattle.interchange.specs.Opened.{OpenedAs, accepted, refused}
use Rattle.interchange.specs.Closed.{ClosedAs, unopened as unopened_so, closes}
use Rattle.lent.specs.declared.Lists.{Lists as Lent}
use Rattle.lent.specs.Lent.{lent}
use Rattle.lines.specs.Lines.{message_line, end_line, open_line, Lined}
use Rattle.lines.specs.Laws.LinesLaws.{held_within, held_is}
use Rattle.walk.specs.declared.Walked as step
use Rattle.walk.specs.Steps.{Walked}
use Rattle.walk.specs.Frame.{message, step_from}
use Rattle.walk.specs.Laws.PlaceLaws.{walk_less, walk_count, walk_count_fits, walk_add, walk_add_fits}
use Rattle.walk.specs.Walks.{Walks, walks_message, walks_nothing, walks_refused}
use Rattle.payreport.specs.Printed.{accepts, Opened, WalksAt, Judged, judged, Visited, start, next, AcceptedOf, LineOf, MakesLine, TookLine, unopened, told, end, Told, told_none, told_more, Tells, ReportOf, unopened_alone, long_alone, messages_end, Reported}

-- ---- opening
-- what closing tells of it
abbrev Shut : List ℕ → Closing → Type 0
Shut s (Ok c) = length s ≤ 32768 → Opened s
Shut s (Err f) = OpenedAs s (opening.Refused f)

shut : (s : List ℕ) {o : Closing} → ClosedAs s o → Shut s o
shut s (unopened_so n l) = refused n l
shut s (closes v first n o l) = λ h. record { characters = v; first = first; short = h; opens = accepted v first o }

module _ (s : List ℕ) (o : Closing) (q : ClosedAs s o) (h : length s ≤ 32768) where
  module _ (c : code.Closing) (e : o ≡ Ok c) where
    pub opened_so : Opened s
    opened_so = subst (Shut s) e (shut s q) h

    pub closed_so : ClosedAs s (Ok c)
    closed_so = subst (ClosedAs s) e q

    pub end_so : (k : ℕ) → AcceptedOf s k → LineOf s (end_line c.messages k c.strays (number_told c.fault))
    end_so k a = end k c opened_so a closed_so

  module _ (f : Refusal) (e : o ≡ Err f) where
    unopened_as : OpenedAs s (opening.Refused f)
    unopened_as = subst (Shut s) e (shut s q)

    pub unopened_line : LineOf s (open_line (table_number f.number))
    unopened_line = unopened f h unopened_as

    pub unopened_report : ReportOf s (open_line (table_number f.number))
    unopened_report = unopened_alone f h unopened_as

-- ---- a line made in a room of 128 bytes
-- a call that puts the line l over the front of such a room
abbrev pub Puts : List ℕ → (List ℕ → ℕ → List ℕ → Type 0) → Type 0
Puts l made = (old : List ℕ) (n : ℕ) (new : List ℕ) → made old n new → Lined l old new n × (length l ≤ 128)

pub puts_line : (s l : List ℕ) (made : List ℕ → ℕ → List ℕ → Type 0) → Puts l made → LineOf s l → MakesLine s made
puts_line s l made p h old n new e m =
    let w = p old n new m in
    (held_within l old new n w.0 w.1 (sym e), subst (LineOf s) (sym (held_is l old new n w.0 w.1 (sym e))) h)

pub took_made : {T E : Type 0} (r : Result T E) (u v : Option (List ℕ)) (made : List ℕ → ℕ → List ℕ → Type 0) (old : List ℕ) (n : ℕ) (new : List ℕ) → length old ≡ 128 → made old n new
    → OnOk r (Appends u v (take n new)) → OnOk r (TookLine made u v)
took_made (Ok x) u v made old n new e m p = record { old = old; answer = n; new = new; room = e; by = m; written = p }
took_made (Err x) u v made old n new e m p = tt

pub took_line : {T E : Type 0} (r : Result T E) (u v : Option (List ℕ)) (l : List ℕ) (made : List ℕ → ℕ → List ℕ → Type 0) → Puts l made → OnOk r (TookLine made u v) → OnOk r (Appends u v l)
took_line (Ok x) u v l made p w =
    let i = p w.old w.answer w.new w.by in
    subst (Appends u v) (held_is l w.old w.new w.answer i.0 i.1 (sym w.room)) w.written
took_line (Err x) u v l made p w = tt

-- what a call gave at the room that it was handed
pub at_call : {F T R : Type 0} (g : Once F (MutBor T × Unit {0}) (R × (MutBor T × Unit {0}))) (f : F) (shown left : MutBor T) (r : R) → g.post f (shown, tt) (r, (left, tt))
    → FnOnceReturnsAtMut g f shown.now r left.now
at_call g f shown left r p = record { shown = shown; shows = refl; left = left; met = p; leaves = refl }

-- ---- lines one behind the other
appends_none : (u : Option (List ℕ)) → Appends u u []
appends_none None = tt
appends_none (Some x) = sym (append-nil x)

appends_then : (u v w : Option (List ℕ)) (a b : List ℕ) → Appends u v a → Appends v w b → Appends u w (a ++ b)
appends_then None v w a b p q = tt
appends_then (Some x) None w a b p q = absurd p
appends_then (Some x) (Some y) None a b p q = absurd q
appends_then (Some x) (Some y) (Some z) a b p q = q ∙ ap (λ (l : List ℕ). l ++ b) p ∙ append_assoc x a b

-- a writer took the lines of the messages up to a position
pub record Telling (s : List ℕ) (at n k : ℕ) (u v : Option (List ℕ)) : Type 0 where
  pub lines : List ℕ
  pub told : Told s at n k lines
  pub written : Appends u v lines

pub tell_first : (s : List ℕ) (u : Option (List ℕ)) → Telling s 0 0 0 u u
tell_first s u = record { lines = []; told = told_none; written = appends_none u }

-- ---- one message more
-- the walk stands at a position
pub record Standing (s : List ℕ) (at n k : ℕ) : Type 0 where
  pub opened : Opened s
  pub visited : Visited s at n k
  pub messages : n ≤ at
  pub accepted : k ≤ at

pub stand_first : (s : List ℕ) → Opened s → Standing s 0 0 0
stand_first s o = record { opened = o; visited = start; messages = omega arith; accepted = omega arith }

pub walks_at : (s : List ℕ) (at : ℕ) (x y : Lent) (w : Walked) → length x.rows.now ≡ 2000 → length x.starts.now ≡ 2000 → length x.totals.now ≡ 400 → Walks s at (lent x) (lent y) w → WalksAt s at w
walks_at s at x y w f g h p = record { lent = lent x; left = lent y; rows = f; starts = g; totals = h; walked = p }

module _ (s : List ℕ) (at n k : ℕ) (x : Standing s at n k) (w : Walked) (p : WalksAt s at w) where
  module _ (o : Option step.Walked) (h : w ≡ Ok o) (m : step.Walked) (i : o ≡ Some m) where
    q : w ≡ Ok (Some m)
    q = h ∙ ap Ok i

    found : Judged s at m.end m.report
    found = judged m.start p.lent p.left p.rows p.starts p.totals (subst (Walks s at p.lent p.left) q p.walked)

    -- the loop ends, and its counts fit
    pub goes_on : length s - m.end < length s - at
    goes_on = walk_less s at p.lent p.left w p.walked m.start m.end m.report q

    pub place_fits : length s < 2 ^ 64 → Fits w64 (n + 1)
    place_fits f = walk_count_fits s at p.lent p.left w p.walked m.start m.end m.report q n x.messages f

    pub accepted_fits : (d : ℕ) → d ≤ 1 → length s < 2 ^ 64 → Fits w64 (k + d)
    accepted_fits d b f = walk_add_fits s at p.lent p.left w p.walked m.start m.end m.report q k d x.accepted b f

    pub told_line : LineOf s (message_line (n + 1) m.report)
    told_line = told at n k m.end m.report x.opened x.visited found

    pub told_next : (d : ℕ) → d ≡ accepts m.report → d ≤ 1 → Standing s m.end (n + 1) (k + d)
    told_next d c b = record {
      opened = x.opened;
      visited = subst (λ (i : ℕ). Visited s m.end (n + 1) (k + i)) (sym c) (next at n k m.end m.report x.visited found);
      messages = walk_count s at p.lent p.left w p.walked m.start m.end m.report q n x.messages;
      accepted = walk_add s at p.lent p.left w p.walked m.start m.end m.report q k d x.accepted b;
    }

  pub none_left : ((m : step.Walked) → w ≡ Ok (Some m) → ⊥) → AcceptedOf s k
  none_left h = record { at = at; messages = n; visited = x.visited; last = stays w p.walked h }
    where
      stays : (o : Walked) → Walks s at p.lent p.left o → ((m : step.Walked) → o ≡ Ok (Some m) → ⊥) → (a e : ℕ) → message a e ≡ step_from s at → ⊥
      stays o (walks_message v una b c z i u j) g a e m = g (record { start = b; end = c; report = z }) refl
      stays o (walks_nothing u _) g a e m = let z : ◌≡◌ {A = ℕ} 0 1 = cc in omega arith
      stays o (walks_refused f u _) g a e m = let z : ◌≡◌ {A = ℕ} 0 1 = cc in omega arith

  -- the lines so far, if each was written, and one more, if it was
  pub tell_next : {E : Type 0} (u v : Option (List ℕ)) (o : Result (Unit {0}) E) → OnOk o (Telling s at n k u v) → (a : Option step.Walked) → w ≡ Ok a → (m : step.Walked) → a ≡ Some m → (v' : Option (List ℕ)) (r : Result (Unit {0}) E)
      → OnOk r (Appends v v' (message_line (n + 1) m.report)) → (o' : Result (Unit {0}) E) → o' ≡ result_and o r → (d : ℕ) → d ≡ accepts m.report → OnOk o' (Telling s m.end (n + 1) (k + d) u v')
  tell_next u v (Err f) z a q m h v' r g o' i d c = rw i tt
  tell_next u v (Ok x) z a q m h v' (Err f) g o' i d c = rw i tt
  tell_next u v (Ok x) z a q m h v' (Ok y) g o' i d c =
      rw i
      record {
        lines = z.lines ++ message_line (n + 1) m.report;
        told = subst (λ (j : ℕ). Told s m.end (n + 1) (k + j) (z.lines ++ message_line (n + 1) m.report)) (sym c) (told_more at n k m.end m.report z.lines z.told (found a q m h));
        written = appends_then u v v' z.lines (message_line (n + 1) m.report) z.written g;
      }

-- ---- the whole report
module _ {E : Type 0} (s : List ℕ) (k : ℕ) (u v w : Option (List ℕ)) (p : Opened s) (c : code.Closing) (q : ClosedAs s (Ok c)) where
  pub reported_end : (o r o' : Result (Unit {0}) E) → OnOk o (Tells s k u v) → OnOk r (Appends v w (end_line c.messages k c.strays (number_told c.fault))) → o' ≡ result_and o r → OnOk o' (Reported s u w)
  reported_end (Err f) r o' z g i = rw i tt
  reported_end (Ok x) (Err f) o' z g i = rw i tt
  reported_end (Ok x) (Ok y) o' z g i =
      rw i
      record { lines = z.lines ++ end_line c.messages k c.strays (number_told c.fault); report = messages_end k z.lines c p z.all q; written = appends_then u v w z.lines (end_line c.messages k c.strays (number_told c.fault)) z.written g }

module _ {T E : Type 0} (s l : List ℕ) (u v : Option (List ℕ)) (q : ReportOf s l) where
  pub reported_alone : (r : Result T E) → OnOk r (Appends u v l) → OnOk r (Reported s u v)
  reported_alone (Ok x) p = record { lines = l; report = q; written = p }
  reported_alone (Err x) p = tt

-- ---- the report on what was read
-- of a long input the first 32,769 bytes are enough
first_enough : (s xs l : List ℕ) → 32768 < length s → 32768 < length xs → ReportOf s l → ReportOf xs l
first_enough s xs l h g (long_alone _) = long_alone g
first_enough s xs l h g (unopened_alone f short _) = absurd (omega arith)
first_enough s xs l h g (messages_end k b c o _ _) = let short = o.short in absurd (omega arith)

report_whole : (s ys xs l : List ℕ) → length s ≤ 32769 → xs ≡ s ++ ys → (length s < 32769 → ys ≡ []) → ReportOf s l → ReportOf xs l
report_whole s ys xs l h e whole r = go (dec_lt (length s) 32769)
  where
    go : Dec (length s < 32769) → ReportOf xs l
    go (yes w) = subst (λ (x : List ℕ). ReportOf x l) (sym (e ∙ ap (λ (y : List ℕ). s ++ y) (whole w) ∙ append-nil s)) r
    go (no w) = let n = ap length e in let m = length-append s ys in first_enough s xs l (omega arith) (omega arith) r

pub report_read : {E : Type 0} (o r o' : Result (Unit {0}) E) (n : ℕ) (room : List ℕ) (i j u v : Option (List ℕ)) → length room ≡ 32769 → n ≤ length room → Consumes i j (take n room)
    → OnOk o (n < length room → IsAtEnd j) → OnOk r (Reported (take n room) u v) → o' ≡ result_and o r → OnOk o' (IfSome i (λ s. Reported s u v))
report_read (Err f) r o' n room i j u v k h p whole z e = rw e tt
report_read (Ok x) (Err f) o' n room i j u v k h p whole z e = rw e tt
report_read (Ok x) (Ok y) o' n room None j u v k h p whole z e = rw e tt
report_read (Ok x) (Ok y) o' n room (Some xs) None u v k h p whole z e = absurd p
report_read (Ok x) (Ok y) o' n room (Some xs) (Some ys) u v k h p whole z e =
    let m = length-take-le n room h in
    rw e
    record { lines = z.lines; report = report_whole (take n room) ys xs z.lines (omega arith) p (λ w. whole (omega arith)) z.report; written = z.written }
