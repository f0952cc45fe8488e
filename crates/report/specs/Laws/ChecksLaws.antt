-- The ways through the parts of a check. Assumes nothing.
use Rattle.std.specs.Prelude.{ℕ, zero, suc, ◌+◌, ◌-◌, ◌%◌, ◌≤◌, ◌<◌, ◌≡◌, List, [], ◌∷◌, map, Bool, true, false, ◌&&◌, ◌||◌, length, drop, eqb, leb, Option, None, Some, Result, Ok, Err, ⊤}
use Rattle.std.proofs.Common.{arith, sym, ap, ◌∙◌, subst}
use Rattle.std.proofs.Math.Path.{refl}
use Rattle.faults.specs.Firsts.{Told}
use Rattle.numbers.specs.declared.Number.{Number}
use Rattle.numbers.specs.Table.{table_number}
use Rattle.faults.specs.Firsts.{told_of}
use Rattle.numbers.specs.declared.Number.TheVariants as numbers
use borrow.Author.Tests.{eq-eqb, ne_eqb, lt-ltb, le-ltb, lt-leb, le-leb}
use Rattle.service.specs.declared.Service.{Service}
use Rattle.segments.specs.declared.Segment.{Segment}
use Rattle.segments.specs.declared.Segment.TheVariants.{Finished, Unfinished, Nothing}
use Rattle.segments.specs.Forms.Segments.{segment_at}
use Rattle.segments.specs.declared.Piece.{Piece}
use Rattle.segments.specs.SegmentList.{segments_from, start_at}
use Rattle.parts.specs.Parts.{lex, value_of}
use Rattle.parts.proofs.Laws.ValueLaws.{tag_value}
use Rattle.values.specs.Numbers.{value_from, value_in}
use Rattle.values.specs.Forms.Values.{code_from, code_of}
use Rattle.values.specs.Forms.Codes as codes
use Rattle.faults.specs.Firsts.{Fault}
use Rattle.faults.specs.Firsts.{fault_at}
use Rattle.tally.specs.Places.{next_start, passed}
use Rattle.tally.specs.Laws.PlacesLaws.{starts}
use Rattle.interchange.specs.Answers.{Refusal}
use Rattle.interchange.specs.Answers.{refusal}
use Rattle.interchange.specs.Envelope.{is_reference}
use Rattle.chart.specs.Chart.{Reading}
use Rattle.chart.specs.Tags.{tags_of}
use Rattle.chart.specs.Answer.{Answers}
use Rattle.chart.specs.Forms.Next.{rows_of}
use Rattle.chart.specs.Table.{Table}
use Rattle.kinds.specs.declared.Kind.{Kind}
use Rattle.kinds.specs.declared.Kind.TheVariants.{Paymul, Debmul}
use Rattle.kinds.specs.Kinds.{table_of}
use Rattle.paymul.specs.Table.{PAYMUL}
use Rattle.debmul.specs.Table.{DEBMUL}
use Rattle.values.specs.Text.{text, same_list}
use Rattle.values.specs.Laws.TextLaws.{says_code}
use Rattle.interchange.specs.Laws.TagLaws.{unh_code}
use Rattle.message.specs.Rules.{paymul_of}
use Rattle.message.specs.Advices.{debmul_of}
use Rattle.message.specs.Kinds.{means, chart_for}
use Rattle.message.specs.Faults.{tell_all, least_of}
use Rattle.message.specs.Placed.{placed_on}
use Rattle.report.specs.Reported.{raw_of, is_kind, headed}
use Rattle.report.specs.Forms.Checks.{ends_by, ends_with, kind_at, typed, headed_at, outright, Begun, early_fault, misfit_at, Misfit, nothing, segment, Late, placed, stuck, byte_refusal, start_by, refusal_at}

-- what is no value is none
pub none_of : {A : Type 0} (e : Option A) → ((x : A) → e ≡ Some x → ⊥) → e ≡ None
none_of None h = refl
none_of (Some x) h = absurd (h x refl)

module _ (v : Service) (m : List ℕ) (f : Option ℕ) where
  pub closed_none : f ≡ None → false ≡ ends_with v m f
  closed_none e = rw e

  module _ (p : ℕ) (e : f ≡ Some p) (k : Segment) (c : k ≡ segment_at v p m) where
    pub closed_end : (t n : ℕ) → k ≡ Finished t n → eqb (t + 1) (length m) ≡ ends_with v m f
    closed_end t n q = rw e (ap (ends_by (length m)) (sym q ∙ c))

    pub closed_unfinished : k ≡ Unfinished → false ≡ ends_with v m f
    closed_unfinished q = rw e (ap (ends_by (length m)) (sym q ∙ c))

    pub closed_nothing : k ≡ Nothing → false ≡ ends_with v m f
    closed_nothing q = rw e (ap (ends_by (length m)) (sym q ∙ c))

pub typed_by : (v : Service) (m : List ℕ) (u : Bool) (w x y z : ℕ) (r : Bool) → w ≡ code_of (value_in v 0 m 2 0) → x ≡ code_of (value_in v 0 m 2 1) → y ≡ code_of (value_in v 0 m 2 2) → z ≡ code_of (value_in v 0 m 2 3)
    → r ≡ u && (eqb w codes.PAYMUL || eqb w codes.DEBMUL) && eqb x codes.D && eqb y codes.NINETY_SIX_A && eqb z codes.UN → r ≡ typed v m u
unfolding text code_from
typed_by v m u w x y z r h1 h2 h3 h4 h5 =
    h5 ∙ rw (h1, h2, h3, h4, says_code (value_in v 0 m 2 0) "PAYMUL" refl, says_code (value_in v 0 m 2 0) "DEBMUL" refl, says_code (value_in v 0 m 2 1) "D" refl, says_code (value_in v 0 m 2 2) "96A" refl, says_code (value_in v 0 m 2 3) "UN" refl)

pub header_by : (v : Service) (m : List ℕ) (g n : ℕ) (t r : Bool) → g ≡ code_of (value_from v 0 m) → n ≡ length (value_in v 0 m 1 0) → t ≡ is_reference n → r ≡ typed v m (eqb g codes.UNH && t) → r ≡ headed_at v m
header_by v m g n t r h1 h2 h3 h4 = h4 ∙ rw (h3, h2, h1, unh_code (value_from v 0 m))

-- the message begins with its first segment
headed_by : (v : Service) (m : List ℕ) (l : List Piece) → next_start (length m) l ≡ 0 → headed (map (raw_of v m) l) ≡ headed_at v m
unfolding headed is_kind lex value_of text same_list
headed_by v [] [] e = refl
headed_by v (b ∷ m) [] e = absurd (omega arith)
headed_by v m (p ∷ l) e = rw (e, tag_value (lex v false (drop 0 m)))

pub headed_is : (v : Service) (m : List ℕ) → headed (map (raw_of v m) (segments_from v m 0)) ≡ headed_at v m
headed_is v m = headed_by v m (segments_from v m 0) (starts v m 0 (omega arith))

module _ (m : List ℕ) (f : Bool) where
  pub outright_long : 1048576 < length m → (r : Refusal) → r ≡ refusal numbers.TooLong → Err r ≡ outright (leb (length m) 1048576) f
  outright_long h r q = rw (lt-leb (length m) 1048576 h) (ap Err q)

  module _ (h : length m ≤ 1048576) (k : Bool) (p : k ≡ f) where
    pub outright_fit : k ≡ true → Ok tt ≡ outright (leb (length m) 1048576) f
    outright_fit e = rw (le-leb (length m) 1048576 h, ← p, e)

    pub outright_unfit : k ≡ false → (r : Refusal) → r ≡ refusal numbers.Characters → Err r ≡ outright (leb (length m) 1048576) f
    outright_unfit e r q = rw (le-leb (length m) 1048576 h, ← p, e) (ap Err q)

module _ (c h : Bool) (n : ℕ) where
  pub early_unclosed : (a : Bool) → a ≡ c → a ≡ false → fault_at 11 1 ≡ early_fault c h n
  early_unclosed a p e = rw (← p, e)

  module _ (a : Bool) (p : a ≡ c) (e : a ≡ true) (b : Bool) (q : b ≡ h) where
    pub early_header : b ≡ false → fault_at 12 1 ≡ early_fault c h n
    early_header g = rw (← p, e, ← q, g)

    pub early_many : b ≡ true → 9999 < n → fault_at 13 10000 ≡ early_fault c h n
    early_many g l = rw (← p, e, ← q, g, lt-ltb 9999 n l)

    pub early_none : b ≡ true → n ≤ 9999 → None ≡ early_fault c h n
    early_none g l = rw (← p, e, ← q, g, le-ltb 9999 n l)

-- the kind by the type's code
module _ (v : Service) (m : List ℕ) (x : ℕ) (q : x ≡ code_of (value_in v 0 m 2 0)) where
  pub kind_debmul : x ≡ codes.DEBMUL → Debmul ≡ kind_at v m
  unfolding text code_from
  kind_debmul e = rw (says_code (value_in v 0 m 2 0) "DEBMUL" refl, eq-eqb (code_of (value_in v 0 m 2 0)) codes.DEBMUL (sym q ∙ e))

  pub kind_paymul : (x ≡ codes.DEBMUL → ⊥) → Paymul ≡ kind_at v m
  unfolding text code_from
  kind_paymul h = rw (says_code (value_in v 0 m 2 0) "DEBMUL" refl, ne_eqb (code_of (value_in v 0 m 2 0)) codes.DEBMUL (λ e. h (q ∙ e)))

-- a message that is read as one of a kind, with that kind's table
module _ (c : Kind) (v : Service) (m : List ℕ) (s : Begun c v m) where
  pub begun_paymul : c ≡ Paymul → (t : Table) → t ≡ PAYMUL → Begun c v m × (t ≡ table_of c)
  begun_paymul e t q = (s, q ∙ sym (ap table_of e))

  pub begun_debmul : c ≡ Debmul → (t : Table) → t ≡ DEBMUL → Begun c v m × (t ≡ table_of c)
  begun_debmul e t q = (s, q ∙ sym (ap table_of e))

-- the rules of the kind, with its table
module _ (v : Service) (m : List ℕ) (k n : ℕ) (c : Kind) (t : Table) (q : t ≡ table_of c) (r : Option Told) where
  pub judged_paymul : c ≡ Paymul → r ≡ least_of (tell_all (paymul_of k n (placed_on t v m))) → r ≡ least_of (tell_all ((means c).rules k n (placed_on (table_of c) v m)))
  judged_paymul e h = h ∙ ap (λ (y : Table). least_of (tell_all (paymul_of k n (placed_on y v m)))) q ∙ rw e refl

  pub judged_debmul : c ≡ Debmul → r ≡ least_of (tell_all (debmul_of k (placed_on t v m))) → r ≡ least_of (tell_all ((means c).rules k n (placed_on (table_of c) v m)))
  judged_debmul e h = h ∙ ap (λ (y : Table). least_of (tell_all (debmul_of k (placed_on y v m)))) q ∙ rw e refl

module _ (c : Kind) (v : Service) (m : List ℕ) (x : Result ⊤ ℕ) (w : Answers (table_of c) v m x) where
  pub misfit_none : (u : ⊤) → x ≡ Ok u → Misfit c v m None
  misfit_none u e = nothing (subst (Answers (table_of c) v m) e w) refl

  pub misfit_some : (p : ℕ) → x ≡ Err p → (f : Option Told) → f ≡ misfit_at v m p → Misfit c v m f
  misfit_some p e f q = segment p (subst (Answers (table_of c) v m) e w) q

pub not_none : (n k : ℕ) → fault_at n k ≡ None → ⊥
not_none n k e = let z : ◌≡◌ {A = ℕ} 0 1 = cc in omega arith

module _ (c : Kind) (v : Service) (m : List ℕ) (k n : ℕ) (f : Option Fault) (w : Misfit c v m (told_of f)) where
  late_found : Misfit c v m (told_of f) → f ≡ None → Reading (chart_for c) (tags_of v m) (rows_of (table_of c) (tags_of v m))
  late_found (nothing r e) q = r
  late_found (segment p a e) q = absurd (not_none 16 _ (sym e ∙ ap told_of q))

  pub late_placed : f ≡ None → (r : Option Told) → r ≡ least_of (tell_all ((means c).rules k n (placed_on (table_of c) v m))) → Late c v m k n r
  late_placed e r h = placed (late_found w e) h

  late_at : Misfit c v m (told_of f) → (g : Fault) → f ≡ Some g → Late c v m k n (told_of f)
  late_at (nothing r e) g q = absurd (not_none (table_number g.number) g.segment (sym (ap told_of q) ∙ e))
  late_at (segment p u e) g q = stuck p u e

  pub late_stuck : (g : Fault) → f ≡ Some g → Late c v m k n (told_of f)
  late_stuck = late_at w

module _ (v : Service) (m : List ℕ) where
  pub misfit_by : (p b o : ℕ) → b ≡ passed (length m) p (segments_from v m 0) → o ≡ b % 4294967295 + 1 → fault_at 16 o ≡ misfit_at v m p
  misfit_by p b o e f = rw (f, e)

  pub byte_by : (p b o x y : ℕ) → b ≡ passed (length m) p (segments_from v m 0) → o ≡ b % 4294967295 + 1 → x ≡ o % 4294967296 → y ≡ p % 4294967296
      → ◌≡◌ {A = Refusal} (record { number = numbers.Byte; segment = x; offset = y }) (byte_refusal v m p)
  byte_by p b o x y e f g h = rw (g, h, f, e)

  pub start_none : (k : ℕ) → k ≡ 0 → 0 ≡ start_by v m k
  start_none k e = rw e

  pub start_some : (k : ℕ) → (k ≡ 0 → ⊥) → (r : ℕ) → r ≡ start_at v m (k - 1) → r ≡ start_by v m k
  start_some zero h r e = absurd (h refl)
  start_some (suc k) h r e = let q : suc k - 1 ≡ k = omega arith in e ∙ ap (start_at v m) q

  pub refusal_by : (n : Number) (k o x y : ℕ) → x ≡ k % 4294967296 → o ≡ start_by v m k → y ≡ o % 4294967296 → ◌≡◌ {A = Refusal} (record { number = n; segment = x; offset = y }) (refusal_at v m n k)
  refusal_by n k o x y e f g = rw (e, g, f)
