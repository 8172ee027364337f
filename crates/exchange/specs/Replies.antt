-- The replies as text, in ASCII, without the line feed. Assumes nothing.
use Rattle.std.specs.Prelude.{ℕ, zero, suc, cond, List, [], ◌∷◌, ◌++◌, map, eqb, length, ℤ, Result, Ok, Err}
use Rattle.dialogue.specs.Written.{decimal, signed_decimal, led}
use Rattle.meaning.specs.declared.Answer.{Answer}
use Rattle.meaning.specs.declared.Verdict.{Verdict}
use Rattle.meaning.specs.declared.Panel.{Panel}

-- a space and a number
abbrev pub next : ℕ → List ℕ
next n = 32 ∷ decimal n

-- a word and the numbers after it
abbrev pub with_two : List ℕ → ℕ → ℕ → List ℕ
with_two word a b = (word ++ next a) ++ next b

abbrev pub with_three : List ℕ → ℕ → ℕ → ℕ → List ℕ
with_three word a b c = with_two word a b ++ next c

-- `refused NUMBER`
abbrev pub refused_text : ℕ → List ℕ
refused_text n = (114 ∷ 101 ∷ 102 ∷ 117 ∷ 115 ∷ 101 ∷ 100 ∷ []) ++ next n

-- `plan V B`, `none V B ROWS`, `unlisted V B ROWS`, `stopped V B` or `refused NUMBER`
abbrev pub answer_text : Answer → List ℕ
answer_text (Answer.Plan v b) = with_two (112 ∷ 108 ∷ 97 ∷ 110 ∷ []) v b
answer_text (Answer.None v b r) = with_three (110 ∷ 111 ∷ 110 ∷ 101 ∷ []) v b r
answer_text (Answer.Unlisted v b r) = with_three (117 ∷ 110 ∷ 108 ∷ 105 ∷ 115 ∷ 116 ∷ 101 ∷ 100 ∷ []) v b r
answer_text (Answer.Stopped v b) = with_two (115 ∷ 116 ∷ 111 ∷ 112 ∷ 112 ∷ 101 ∷ 100 ∷ []) v b
answer_text (Answer.Refused n) = refused_text n

-- a bar between spaces; the numbers of a list are each led by a space, so that only an empty one leaves the bar's own
abbrev pub bar : ℕ → List ℕ
bar zero = 32 ∷ 124 ∷ 32 ∷ []
bar (suc n) = 32 ∷ 124 ∷ []

-- ` | ` the numbers of a list, each as its type writes it
abbrev pub barred : {A : Type 0} → (A → List ℕ) → List A → List ℕ
barred text list = bar (length list) ++ led (map text list)

-- ` | ` the room's bytes
abbrev pub room_text : List ℕ → List ℕ
room_text = barred decimal

-- ` | ` the numbers of a signed list
abbrev pub times_text : List ℤ → List ℕ
times_text = barred signed_decimal

-- ` | ` the timetable's elements ` | ` the picks' ` | ` the reasons'
abbrev pub lent_text : List ℤ → List ℕ → List ℕ → List ℕ
lent_text timetable picks reasons = (times_text timetable ++ room_text picks) ++ room_text reasons

-- `yes`, `no` or `refused NUMBER`
abbrev pub verdict_text : Verdict → List ℕ
verdict_text Verdict.Yes = 121 ∷ 101 ∷ 115 ∷ []
verdict_text Verdict.No = 110 ∷ 111 ∷ []
verdict_text (Verdict.Refused n) = refused_text n

-- `lamps NUMBER SET TOTAL FIRST c0 … c31`
abbrev pub panel_text : Panel → List ℕ
panel_text p =
    (((((108 ∷ 97 ∷ 109 ∷ 112 ∷ 115 ∷ []) ++ next p.number) ++ next p.lit) ++ next p.total) ++ next p.first)
    ++ led (map decimal p.each)

-- `bound Z` or `refused NUMBER`
abbrev pub bound_text : Result ℤ ℕ → List ℕ
bound_text (Ok z) = (98 ∷ 111 ∷ 117 ∷ 110 ∷ 100 ∷ 32 ∷ []) ++ signed_decimal z
bound_text (Err n) = refused_text n

-- `problem N K t1 … tK M e1 … eM`
abbrev pub problem_text : ℕ → List ℤ → List ℕ → List ℕ
problem_text n triples counts =
    (((((112 ∷ 114 ∷ 111 ∷ 98 ∷ 108 ∷ 101 ∷ 109 ∷ []) ++ next n) ++ next (length triples)) ++ led (map signed_decimal triples)) ++ next (length counts))
    ++ led (map decimal counts)

-- `refused NUMBER PLACE`
abbrev pub refused_at_text : ℕ → ℕ → List ℕ
refused_at_text number place = refused_text number ++ next place

-- "a refusal is printed as refused 20 17 or refused 6"
unfoldable pub script_refused_text : ℕ → ℕ → List ℕ
script_refused_text number place = cond (eqb number 20) (refused_at_text number place) (refused_text number)

-- `text LENGTH`
abbrev pub length_text : ℕ → List ℕ
length_text n = (116 ∷ 101 ∷ 120 ∷ 116 ∷ []) ++ next n

-- `day NUMBER OFF | d1 … d576 | t1 … tT`
abbrev pub day_text : ℕ → ℕ → List ℤ → List ℤ → List ℕ
day_text number off entries timetable = (with_two (100 ∷ 97 ∷ 121 ∷ []) number off ++ times_text entries) ++ times_text timetable
