-- The three lines of document 01's example, an accepted message's, a failed opening's, and one with a number outside the table. Assumes nothing.
use Rattle.std.specs.Prelude.{◌≡◌, refl, Err}
use Rattle.numbers.specs.declared.Number.TheVariants as numbers
use Rattle.values.specs.Text.{text}
use Rattle.report.specs.Answers.{Accepted, Refused}
use Rattle.lines.specs.Lines.{last_digits, decimal, spaced, line, message_line_by, message_line, end_line, open_line}

pub first : message_line 1 (Refused (record { number = numbers.Placement; segment = 2; offset = 22 })) ≡ text "MSG 1 NO 16 2 22\n"
unfolding line spaced decimal last_digits text
first = refl

pub second : message_line 2 (Refused (record { number = numbers.Type; segment = 1; offset = 0 })) ≡ text "MSG 2 NO 12 1 0\n"
unfolding line spaced decimal last_digits text
second = refl

pub end : end_line 2 0 0 0 ≡ text "END 2 0 0 0\n"
unfolding line spaced decimal last_digits text
end = refl

pub accepted : message_line 3 (Accepted (record { segments = 27; orders = 2; payments = 3 })) ≡ text "MSG 3 OK 27 2 3\n"
unfolding line spaced decimal last_digits text
accepted = refl

pub unopened : open_line 1 ≡ text "OPEN NO 1\n"
unfolding line spaced decimal last_digits text
unopened = refl

pub outside : message_line_by (λ n. n) 4 (Err (record { number = 19; segment = 1; offset = 0 })) ≡ text "MSG 4 NO 19 1 0\n"
unfolding line spaced decimal last_digits text
outside = refl
