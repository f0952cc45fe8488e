-- The cases hold. Assumes nothing.
use Rattle.std.specs.Prelude.{ℕ, ◌≤◌, ◌≡◌, refl, List, [], ◌∷◌, true, false, length}
use Rattle.std.proofs.Common.{arith, sym}
use Rattle.numbers.specs.declared.Number.TheVariants as numbers
use Rattle.service.specs.Tests.{last_of}
use Rattle.service.specs.Service.{plain_service, begins_una, characters_of}
use Rattle.segments.specs.Classes.{class_of}
use Rattle.segments.specs.SegmentList.{pieces, segments_after}
use Rattle.parts.specs.Parts.{lex, elements, value_at, value_of}
use Rattle.values.specs.Text.{text, same_list}
use Rattle.interchange.specs.Answers.{Opens, Refused}
use Rattle.interchange.specs.Messages.{closed, tag_at, extent_of, messages_of}
use Rattle.interchange.specs.Envelope.{is_reference, is_header, first_at, refusal}
use Rattle.interchange.specs.Forms.Answers.{opened_by, opening_of}
use Rattle.interchange.specs.Laws.OpenedLaws.{is_opening, opened}
use Rattle.damage.specs.Damage.{last_closed, Before, here, later, Mark, Within, Hits, replaced, damaged}
use Rattle.damage.specs.Damage as damage
use Rattle.demands.specs.OtherMessages.{Chosen}
use Rattle.demands.specs.DamageCases.{three, messages_in, both, first, in_row, third, DamageCases}

opens : opening_of three ≡ Opens plain_service 0
unfolding text characters_of begins_una opening_of opened_by first_at is_header is_reference last_of tag_at pieces class_of lex value_of elements value_at same_list
opens = refl

were : messages_in three ≡ closed 21 39 ∷ closed 39 57 ∷ closed 57 71 ∷ []
unfolding text messages_of extent_of tag_at pieces class_of lex value_of same_list
were = refl

-- the terminator before each UNT
unt_one : Before 30 38 (segments_after plain_service three 21)
unfolding text pieces class_of
unt_one = later _ _ (here _ _ _)

unt_two : Before 48 56 (segments_after plain_service three 39)
unfolding text pieces class_of
unt_two = later _ _ (here _ _ _)

unt_three : Before 62 70 (segments_after plain_service three 57)
unfolding text pieces class_of
unt_three = here _ _ _

-- ---- chosen
last_whole : Hits plain_service three true false (closed 57 71 ∷ []) (damage.whole ∷ [])
last_whole = damage.spared true (closed 57 71) [] [] (damage.none true)

chosen : (k : List Mark) → Hits plain_service three true false (closed 21 39 ∷ closed 39 57 ∷ closed 57 71 ∷ []) k → (n : ℕ) → length (damaged three k) ≡ n → n ≤ 1048576 → Chosen three plain_service 0 k
chosen k w n e h = record { opens = opened three plain_service 0 opens; hits = rw were w; short = omega arith }

near_one : Within 21 30 (record { from = 30; upto = 30; new = text "?" })
near_one = record { low = omega arith; order = omega arith; high = omega arith }

near_two : Within 39 48 (record { from = 39; upto = 44; new = text "FTX" })
near_two = record { low = omega arith; order = omega arith; high = omega arith }

all_two : Within 39 48 (record { from = 39; upto = 48; new = text "RFF?" })
all_two = record { low = omega arith; order = omega arith; high = omega arith }

far_one : (d : List ℕ) → Within 21 38 (record { from = 21; upto = 38; new = d })
far_one d = record { low = omega arith; order = omega arith; high = omega arith }

both_hits : Hits plain_service three true false (closed 21 39 ∷ closed 39 57 ∷ closed 57 71 ∷ []) both
both_hits = damage.near false 21 30 38 39 _ _ _ refl unt_one near_one (damage.near false 39 48 56 57 _ _ _ refl unt_two near_two last_whole)

first_hits : (d : List ℕ) → Hits plain_service three true false (closed 21 39 ∷ closed 39 57 ∷ closed 57 71 ∷ []) (first d)
first_hits d = damage.far false 21 38 39 _ _ _ refl (far_one d) (damage.passed true (closed 39 57) _ _ last_whole)

row_hits : Hits plain_service three true false (closed 21 39 ∷ closed 39 57 ∷ closed 57 71 ∷ []) in_row
row_hits = damage.far false 21 38 39 _ _ _ refl (far_one (text "FTX?")) (damage.near true 39 48 56 57 _ _ _ refl unt_two all_two last_whole)

both_long : length (damaged three both) ≡ 78
unfolding text
both_long = refl

lost_long : length (damaged three (first (text "FTX?"))) ≡ 66
unfolding text
lost_long = refl

kept_long : length (damaged three (first (text "FTX"))) ≡ 65
unfolding text
kept_long = refl

row_long : length (damaged three in_row) ≡ 61
unfolding text
row_long = refl

-- ---- found
both_are : damaged three both ≡ text "UNB+UNOA:3+A+B+1:1+R'UNH+1'BGM?'UNT+3+1'FTX'BGM'UNT+3+2'UNH+3'UNT+2+3'UNZ+3+R'"
unfolding text
both_are = refl

both_found : messages_in (damaged three both) ≡ closed 21 56 ∷ closed 56 70 ∷ []
unfolding text messages_of extent_of tag_at pieces class_of lex value_of same_list
both_found = refl

lost_is : damaged three (first (text "FTX?")) ≡ text "UNB+UNOA:3+A+B+1:1+R'FTX?'UNH+2'BGM'UNT+3+2'UNH+3'UNT+2+3'UNZ+3+R'"
unfolding text
lost_is = refl

lost_found : messages_in (damaged three (first (text "FTX?"))) ≡ closed 44 58 ∷ []
unfolding text messages_of extent_of tag_at pieces class_of lex value_of same_list
lost_found = refl

kept_found : messages_in (damaged three (first (text "FTX"))) ≡ closed 25 43 ∷ closed 43 57 ∷ []
unfolding text messages_of extent_of tag_at pieces class_of lex value_of same_list
kept_found = refl

row_is : damaged three in_row ≡ text "UNB+UNOA:3+A+B+1:1+R'FTX?'RFF?'UNT+3+2'UNH+3'UNT+2+3'UNZ+3+R'"
unfolding text
row_is = refl

row_found : messages_in (damaged three in_row) ≡ closed 39 53 ∷ []
unfolding text messages_of extent_of tag_at pieces class_of lex value_of same_list
row_found = refl

-- ---- the last
last_refused : opening_of (replaced three (third (text "FTX?"))) ≡ Refused (refusal numbers.End)
unfolding text characters_of begins_una opening_of opened_by first_at is_header is_reference last_of tag_at pieces class_of lex value_of elements value_at same_list
last_refused = refl

last_opens : opening_of (replaced three (third (text "FTX"))) ≡ Opens plain_service 0
unfolding text characters_of begins_una opening_of opened_by first_at is_header is_reference last_of tag_at pieces class_of lex value_of elements value_at same_list
last_opens = refl

all_closed : last_closed true (closed 21 39 ∷ closed 39 57 ∷ []) ≡ true
unfolding last_of
all_closed = refl

pub damage_cases : DamageCases
damage_cases = record {
  were = were;
  both_chosen = chosen both both_hits 78 both_long (omega arith);
  both_are = both_are;
  both_found = both_found;
  lost_chosen = chosen (first (text "FTX?")) (first_hits (text "FTX?")) 66 lost_long (omega arith);
  lost_is = lost_is;
  lost_found = lost_found;
  kept_chosen = chosen (first (text "FTX")) (first_hits (text "FTX")) 65 kept_long (omega arith);
  kept_found = kept_found;
  row_chosen = chosen in_row row_hits 61 row_long (omega arith);
  row_is = row_is;
  row_found = row_found;
  last_one = record { opens = opened three plain_service 0 opens; messages = were; closes = all_closed; precedes = unt_three; ends = refl };
  last_within = λ d. record { low = omega arith; order = omega arith; high = omega arith };
  last_refused = is_opening (replaced three (third (text "FTX?"))) (Refused (refusal numbers.End)) (sym last_refused);
  last_opens = opened (replaced three (third (text "FTX"))) plain_service 0 last_opens;
}
