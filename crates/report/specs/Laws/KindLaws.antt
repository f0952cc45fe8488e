-- Which kind a message is of: at most one, and the one that its UNH's bytes name. Assumes nothing.
use Rattle.std.specs.Prelude.{ℕ, refl, Bool, ◌&&◌, ◌||◌, length}
use native.Mathlib.Omega.{arith}
use Rattle.std.proofs.Math.Path.{◌≡◌}
use Rattle.std.proofs.Common.{sym, ◌∙◌, true≢false, eqb-true, ne_eqb}
use mathlib.Core.List.{List, [], ◌∷◌, map}
use Rattle.std.proofs.Math.Bool.{true, false}
use Rattle.service.specs.declared.Service.{Service}
use Rattle.segments.specs.declared.Piece.{Piece}
use Rattle.segments.specs.SegmentList.{segments_from}
use Rattle.parts.specs.Parts.{lex, elements, value_at}
use Rattle.values.specs.Numbers.{value_in}
use Rattle.values.specs.Text.{text, same_list, says}
use Rattle.values.specs.Forms.Values.{code_from, code_of}
use Rattle.values.specs.Forms.Codes as codes
use Rattle.values.specs.Laws.TextLaws.{says_code}
use Rattle.tally.specs.Places.{next_start}
use Rattle.tally.specs.Laws.PlacesLaws.{starts}
use Rattle.interchange.specs.Envelope.{is_reference}
use Rattle.kinds.specs.declared.Kind.{Kind}
use Rattle.kinds.specs.declared.Kind.TheVariants.{Paymul, Debmul}
use Rattle.message.specs.Kinds.{means}
use Rattle.report.specs.Reported.{Raw, raw_of, is_kind, headed, lines, asked, Of}
use Rattle.report.specs.Forms.Checks.{kind_at, listed_orders}

-- no value is the type of two kinds
not_both : (l : List ℕ) → says l "PAYMUL" ≡ true → says l "DEBMUL" ≡ false
unfolding text code_from
not_both l e =
    let q : code_of l ≡ codes.PAYMUL = eqb-true (code_of l) codes.PAYMUL (sym (says_code l "PAYMUL" refl) ∙ e) in
    says_code l "DEBMUL" refl ∙ ne_eqb (code_of l) codes.DEBMUL (λ p. omega arith)

-- the message begins with its first segment
kind_by_lem : (v : Service) (m : List ℕ) (k : Kind) (l : List Piece) → next_start (length m) l ≡ 0 → is_kind k (map (raw_of v m) l) ≡ says (value_in v 0 m 2 0) (means k).type
unfolding is_kind lex elements value_at text same_list
kind_by_lem v [] Paymul [] e = refl
kind_by_lem v [] Debmul [] e = refl
kind_by_lem v (b ∷ m) k [] e = absurd (omega arith)
kind_by_lem v m k (p ∷ l) e = rw e

module _ (v : Service) (m : List ℕ) where
  abbrev raws : List Raw
  raws = map (raw_of v m) (segments_from v m 0)

  named : (k : Kind) → is_kind k raws ≡ says (value_in v 0 m 2 0) (means k).type
  named k = kind_by_lem v m k (segments_from v m 0) (starts v m 0 (omega arith))

  -- the kind of a message is the one that the check goes by
  pub kind_is : (k : Kind) → Of k v m → kind_at v m ≡ k
  kind_is Paymul e = rw (not_both (value_in v 0 m 2 0) (sym (named Paymul) ∙ e))
  kind_is Debmul e = rw (sym (named Debmul) ∙ e)

  pub one_kind : (k k' : Kind) → Of k v m → Of k' v m → k ≡ k'
  one_kind k k' e e' = sym (kind_is k e) ∙ kind_is k' e'

  -- a message to which 12 does not apply is of that kind
  either_of : (a b : Bool) → says (value_in v 0 m 2 0) "PAYMUL" ≡ a → says (value_in v 0 m 2 0) "DEBMUL" ≡ b → a || b ≡ true → Of (kind_at v m) v m
  either_of a true p q e = rw q (named Debmul ∙ q)
  either_of true false p q e = rw q (named Paymul ∙ p)
  either_of false false p q e = absurd (true≢false (sym e))

  both_left : (a b : Bool) → a && b ≡ true → a ≡ true
  both_left true b e = refl
  both_left false b e = e

  both_right : (a b : Bool) → a && b ≡ true → b ≡ true
  both_right true b e = e
  both_right false b e = absurd (true≢false (sym e))

  headed_kind : (l : List Raw) → headed l ≡ true → is_kind Paymul l || is_kind Debmul l ≡ true
  unfolding headed
  headed_kind [] e = absurd (true≢false (sym e))
  headed_kind (s ∷ l) e =
      pick (says (s.value 0 0) "UNH") (is_reference (length (s.value 1 0))) (is_kind Paymul (s ∷ l) || is_kind Debmul (s ∷ l)) (says (s.value 2 1) "D") (says (s.value 2 2) "96A") (says (s.value 2 3) "UN") e
    where
      pick : (a b c d e f : Bool) → a && b && c && d && e && f ≡ true → c ≡ true
      pick a b c d e f h = both_right (a && b) c (both_left (a && b && c) d (both_left (a && b && c && d) e (both_left (a && b && c && d && e) f h)))

  pub headed_of : headed raws ≡ true → Of (kind_at v m) v m
  headed_of e =
      either_of (says (value_in v 0 m 2 0) "PAYMUL") (says (value_in v 0 m 2 0) "DEBMUL") refl refl (rw (← named Paymul, ← named Debmul) (headed_kind raws e))

  -- what 14 asks for
  asked_by : (a b : Bool) → is_kind Paymul raws ≡ a → is_kind Debmul raws ≡ b → (k : Kind) → Of k v m → asked raws ≡ listed_orders k (lines raws)
  unfolding asked
  asked_by true b p q Paymul e = rw p
  asked_by false b p q Paymul e = absurd (true≢false (sym e ∙ p))
  asked_by true b p q Debmul e = absurd (paymul_debmul (one_kind Paymul Debmul p e))
    where
      paymul_debmul : Paymul ≡ Debmul → ⊥
      paymul_debmul w = let z : ◌≡◌ {A = ℕ} 0 1 = cc in omega arith
  asked_by false true p q Debmul e = rw (p, q)
  asked_by false false p q Debmul e = rw (p, q)

  pub asked_is : (k : Kind) → Of k v m → asked raws ≡ listed_orders k (lines raws)
  asked_is = asked_by (is_kind Paymul raws) (is_kind Debmul raws) refl refl
