-- Opening has one answer, which is what the tests find: an interchange opens exactly if the facts of `Opened` hold. Assumes nothing.
use Rattle.std.specs.Prelude.{ℕ, ◌≤◌, ◌≡◌, List, Bool, true, false, length, ltb, Option, Some, None, Ok, Err}
use Rattle.std.proofs.Common.{arith, sym, ◌∙◌, ap, ap₂, subst, ltb-true, ltb-false}
use Rattle.std.proofs.Math.Path.{refl}
use Rattle.numbers.specs.declared.Number.{Number}
use Rattle.numbers.specs.Table.{table_number}
use Rattle.numbers.specs.Laws.TableLaws.{number_one}
use Rattle.numbers.specs.declared.Number.TheVariants as numbers
use Rattle.service.specs.declared.Service.{Service}
use Rattle.service.specs.declared.Characters.{Characters}
use Rattle.service.specs.Service.{Fit}
use Rattle.service.specs.Service.{characters_of}
use Rattle.service.specs.Laws.ServiceLaws.{same_fit}
use Rattle.service.specs.Tests.{if}
use Rattle.segments.specs.SegmentList.{segments_from}
use Rattle.interchange.specs.Answers.{Opening}
use Rattle.interchange.specs.Answers.{Opens, Refused}
use Rattle.interchange.specs.Envelope.{headed, ended, first_at, refusal}
use Rattle.interchange.specs.Opened.{OpenFault, long, unfit, headless, endless, Opened, Least, OpenedAs, accepted, refused}
use Rattle.interchange.specs.Forms.Answers.{opened_by, opening_by, opening_of}

-- ---- no number below applies
least_1 : (s : List ℕ) (k : ℕ) → OpenFault s k → 1 ≤ k
least_1 s k (long w e) = omega arith
least_1 s k (unfit w e) = omega arith
least_1 s k (headless v una c w e) = omega arith
least_1 s k (endless v una c w e) = omega arith

module _ (s : List ℕ) (h : length s ≤ 1048576) where
  least_2 : (k : ℕ) → OpenFault s k → 2 ≤ k
  least_2 k (long w e) = absurd (omega arith)
  least_2 k (unfit w e) = omega arith
  least_2 k (headless v una c w e) = omega arith
  least_2 k (endless v una c w e) = omega arith

  module _ (v : Service) (una : ℕ) (c : characters_of s ≡ Fit v una) where
    -- the service characters and the first segment are one
    headed_so : (w : Service) (u : ℕ) → characters_of s ≡ Fit w u → headed w s (segments_from w s (first_at s u)) ≡ headed v s (segments_from v s (first_at s una))
    headed_so w u d =
        let f = same_fit w v u una (sym d ∙ c) in
        rw (f.0, f.1)

    ended_so : (w : Service) (u : ℕ) → characters_of s ≡ Fit w u → ended w s (segments_from w s (first_at s u)) ≡ ended v s (segments_from v s (first_at s una))
    ended_so w u d =
        let f = same_fit w v u una (sym d ∙ c) in
        rw (f.0, f.1)

    least_3 : (k : ℕ) → OpenFault s k → 3 ≤ k
    least_3 k (long w e) = absurd (omega arith)
    least_3 k (unfit w e) = absurd (let z : ◌≡◌ {A = ℕ} 0 1 = cc in omega arith)
    least_3 k (headless w u d y e) = omega arith
    least_3 k (endless w u d y e) = omega arith

    module _ (i : headed v s (segments_from v s (first_at s una)) ≡ true) where
      least_4 : (k : ℕ) → OpenFault s k → 4 ≤ k
      least_4 k (long w e) = absurd (omega arith)
      least_4 k (unfit w e) = absurd (let z : ◌≡◌ {A = ℕ} 0 1 = cc in omega arith)
      least_4 k (headless w u d y e) = absurd (let j = headed_so w u d in let z : ◌≡◌ {A = ℕ} 0 1 = cc in omega arith)
      least_4 k (endless w u d y e) = omega arith

      none_left : ended v s (segments_from v s (first_at s una)) ≡ true → (k : ℕ) → OpenFault s k → ⊥
      none_left j k (long w e) = omega arith
      none_left j k (unfit w e) = let z : ◌≡◌ {A = ℕ} 0 1 = cc in omega arith
      none_left j k (headless w u d y e) = let x = headed_so w u d in let z : ◌≡◌ {A = ℕ} 0 1 = cc in omega arith
      none_left j k (endless w u d y e) = let x = ended_so w u d in let z : ◌≡◌ {A = ℕ} 0 1 = cc in omega arith

-- to an interchange that opens no number applies
pub no_fault : (s : List ℕ) (v : Service) (first : ℕ) → Opened s v first → (k : ℕ) → OpenFault s k → ⊥
no_fault s v first o =
    none_left s o.short v o.una o.named
    (ap (λ (i : ℕ). headed v s (segments_from v s i)) o.begins ∙ o.heads)
    (ap (λ (i : ℕ). ended v s (segments_from v s i)) o.begins ∙ o.closes)

-- ---- what the tests find is the answer
module _ (s : List ℕ) where
  by_tests : length s ≤ 1048576 → (v : Service) (una : ℕ) → characters_of s ≡ Fit v una → (a b : Bool) → headed v s (segments_from v s (first_at s una)) ≡ a → ended v s (segments_from v s (first_at s una)) ≡ b
      → OpenedAs s (if a (if b (Opens v (first_at s una)) (Refused (refusal numbers.End))) (Refused (refusal numbers.Header)))
  by_tests h v una c true true i j = accepted v (first_at s una) (record { una = una; short = h; named = c; begins = refl; heads = i; closes = j })
  by_tests h v una c true false i j = refused numbers.End (record { one = endless v una c j refl; least = least_4 s h v una c i })
  by_tests h v una c false b i j = refused numbers.Header (record { one = headless v una c i refl; least = least_3 s h v una c })

  by_characters : length s ≤ 1048576 → (k : Option Characters) → characters_of s ≡ k → OpenedAs s (opening_by s k)
  unfolding opened_by
  by_characters h (Some k) c = by_tests h k.service k.una c (headed k.service s (segments_from k.service s (first_at s k.una))) (ended k.service s (segments_from k.service s (first_at s k.una))) refl refl
  by_characters h None c = refused numbers.Characters (record { one = unfit c refl; least = least_2 s h })

  by_length : (t : Bool) → ltb 1048576 (length s) ≡ t → OpenedAs s (if t (Refused (refusal numbers.TooLong)) (opening_by s (characters_of s)))
  by_length true l = refused numbers.TooLong (record { one = long (ltb-true 1048576 (length s) l) refl; least = least_1 s })
  by_length false l = by_characters (ltb-false 1048576 (length s) l) (characters_of s) refl

  found_opening : OpenedAs s (opening_of s)
  unfolding opening_of
  found_opening = by_length (ltb 1048576 (length s)) refl

  pub is_opening : (o : Opening) → o ≡ opening_of s → OpenedAs s o
  is_opening o e = subst (OpenedAs s) (sym e) found_opening

-- ---- and there is no other
pub one_least : (p : ℕ → Type 0) (n m : ℕ) → Least p n → Least p m → n ≡ m
one_least p n m x y =
    let a = x.least m y.one in
    let b = y.least n x.one in
    omega arith

pub one_case : (p : ℕ → Type 0) (n m : Number) → Least p (table_number n) → Least p (table_number m) → n ≡ m
one_case p n m x y = number_one n m (one_least p (table_number n) (table_number m) x y)

-- the service characters and the first segment of an interchange that opens
pub one_opened : (s : List ℕ) (v : Service) (first : ℕ) (w : Service) (f : ℕ) → Opened s v first → Opened s w f → (v ≡ w) × (first ≡ f)
one_opened s v first w f x y =
    let e = same_fit v w x.una y.una (sym x.named ∙ y.named) in
    (e.0, sym x.begins ∙ ap (first_at s) e.1 ∙ y.begins)

pub one_opening : (s : List ℕ) {a b : Opening} → OpenedAs s a → OpenedAs s b → a ≡ b
one_opening s (accepted v first x) (accepted w f y) = let e = one_opened s v first w f x y in ap₂ Opens e.0 e.1
one_opening s (accepted v first x) (refused n y) = absurd (no_fault s v first x (table_number n) y.one)
one_opening s (refused n x) (accepted v first y) = absurd (no_fault s v first y (table_number n) x.one)
one_opening s (refused n x) (refused m y) = ap (λ (k : Number). Refused (refusal k)) (one_case (OpenFault s) n m x y)

pub opening_is : (s : List ℕ) (o : Opening) → OpenedAs s o → o ≡ opening_of s
opening_is s o w = one_opening s w (found_opening s)

-- ---- an interchange opens exactly if the facts of `Opened` hold
pub opens : (s : List ℕ) (v : Service) (first : ℕ) → Opened s v first → opening_of s ≡ Opens v first
opens s v first o = sym (opening_is s (Opens v first) (accepted v first o))

-- the parts of an answer
service_of : Service → Opening → Service
service_of d (Ok o) = o.service
service_of d (Err f) = d

first_of : Opening → ℕ
first_of (Ok o) = o.first
first_of (Err f) = 0

one_service : (w v : Service) (f first : ℕ) → Opens w f ≡ Opens v first → w ≡ v
unfolding service_of
one_service w v f first e = ap (service_of w) e

one_first : (w v : Service) (f first : ℕ) → Opens w f ≡ Opens v first → f ≡ first
unfolding first_of
one_first w v f first e = ap first_of e

accepted_so : (s : List ℕ) {o : Opening} → OpenedAs s o → (v : Service) (first : ℕ) → o ≡ Opens v first → Opened s v first
accepted_so s (accepted w f o) v first e =
    let x = one_service w v f first e in
    let y = one_first w v f first e in
    rw (← x, ← y) o
accepted_so s (refused n l) v first e = absurd (let z : ◌≡◌ {A = ℕ} 0 1 = cc in omega arith)

pub opened : (s : List ℕ) (v : Service) (first : ℕ) → opening_of s ≡ Opens v first → Opened s v first
opened s v first e = accepted_so s (found_opening s) v first e
