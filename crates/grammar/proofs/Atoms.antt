-- What the grammar keeps of a whole script's pieces: no assert holds more than four bounds, none stands outside an assert, each stands where the
-- last name of an atom was its second, check-sat is read. Assumes nothing.
-- Each state has its mark, and each byte keeps to the marks: tested once by computation, at every state and at one sample of each class of bytes.
use mathlib.Core.Path.{◌≡◌, refl, sym, ◌∙◌}
use mathlib.Core.Bool.{Bool, true, false, ◌&&◌, ◌||◌, not, cond}
use mathlib.Core.List.{List, [], ◌∷◌, ◌++◌}
use mathlib.Core.Logic.{⊎_elim, by_cases}
use mathlib.Core.Option.{Option, none as fine, some as refused}
use Prim.Native.Nat.{ℕ, zero, suc, ◌+◌, ◌<◌, ◌≤◌}
use native.Mathlib.Decide.{ℕ_discrete}
use native.Mathlib.Omega.{arith}
use mir.Facts.{and_yes, or_yes, leb_yes, ltb_yes, eqb_yes, eqb_no, yes_and}
use borrow.Author.Tests.{lt-leb, ne_eqb, eq-eqb}
use lib.Dec.{T, leb, ltb, eqb}
use lib.ListN.{get_or}
use Rattle.laws.proofs.Tests.{is_true, Passed, never}
use Rattle.laws.proofs.Order.{lt-or-ge}
use Rattle.grammar.specs.Grammar.{bytes, among, Role, other, new_name, first_name, second_name, bound_digit, negated_digit, declaration_end, assert_end, check_end, role_no, Kind, exactly, space, line_end, in_comment, symbol_first, symbol_byte, digit, leading_digit, is_a, spelled, blank, gap, parting, opening, closing_as, symbol_as, numeral_as, bound, difference, atom, optional, held, declared, command, set_logic, check_sat, Grammar, none, empty, one, ◌then◌, ◌either◌, many, script}
use Rattle.grammar.specs.Place.{ends, live, follow, is_none, choose, after, role_of, place_from}
use Rattle.grammar.specs.Pieces.{Piece, join_to, pieces}
use Rattle.grammar.specs.States.{grown, origins, states, grammar_of}
use Rattle.grammar.proofs.Same.{both, kept, by_number, kind_no, same, is_equal, equal_is}
use Rattle.grammar.proofs.Alike.{samples, agree, alike, after-alike, role-alike, alike-states}

-- ---- the claim
-- a piece of a role is taken where h bounds have begun since the last assert ended, p says whether the last name of an atom was its second, and
-- e whether check-sat was read
abbrev pub Taken : Role → ℕ → Bool → Bool → (ℕ → Bool → Bool → Type 0) → Type 0
Taken other h p e W = W h p e
Taken new_name h p e W = W h p e
Taken first_name h p e W = W h false e
Taken second_name h p e W = W h true e
Taken bound_digit h p e W = (h < 4) × T p × W (suc h) p e
Taken negated_digit h p e W = (h < 4) × T p × W (suc h) p e
Taken declaration_end h p e W = W h p e
Taken assert_end h p e W = W 0 p e
Taken check_end h p e W = W h p true

-- all of them are, and at their end no bound is left over and check-sat was read
abbrev pub Whole : ℕ → Bool → Bool → List Piece → Type 0
Whole h p e [] = (h ≡ 0) × T e
Whole h p e (q ∷ ps) = Taken q.role h p e (λ h' p' e'. Whole h' p' e' ps)

-- ---- the marks
-- of a state: the most bounds that can have begun since the last assert ended; the role of the digits that go on there, 1 where a bound may begin,
-- 0 where no digit may come; 1 where the last name of an atom was surely its second; 1 once check-sat was read; and the states that may follow
abbrev Mark : Type 0
Mark = ℕ × ℕ × ℕ × ℕ × List ℕ

abbrev begun : Mark → ℕ
begun m = m.0

abbrev run : Mark → ℕ
run m = m.1

abbrev paired : Mark → ℕ
paired m = m.2

abbrev checked : Mark → ℕ
checked m = m.3

abbrev nexts : Mark → List ℕ
nexts m = m.4

-- for each state (tools/automaton marks)
unfoldable pub marks : List Mark
marks =
    (0, 0, 0, 0, []) ∷ (0, 0, 0, 0, 2 ∷ 3 ∷ 4 ∷ []) ∷ (0, 0, 0, 0, 2 ∷ 3 ∷ 4 ∷ []) ∷ (0, 0, 0, 0, 3 ∷ 5 ∷ 6 ∷ []) ∷ (0, 0, 0, 0, 2 ∷ 4 ∷ []) ∷ (0, 0, 0, 0, 3 ∷ 5 ∷ []) ∷ (0, 0, 0, 0, 7 ∷ []) ∷ (0, 0, 0, 0, 8 ∷ []) ∷
    (0, 0, 0, 0, 9 ∷ []) ∷ (0, 0, 0, 0, 10 ∷ []) ∷ (0, 0, 0, 0, 11 ∷ []) ∷ (0, 0, 0, 0, 12 ∷ []) ∷ (0, 0, 0, 0, 13 ∷ []) ∷ (0, 0, 0, 0, 14 ∷ []) ∷ (0, 0, 0, 0, 15 ∷ 16 ∷ []) ∷ (0, 0, 0, 0, 15 ∷ 16 ∷ 17 ∷ []) ∷
    (0, 0, 0, 0, 15 ∷ 16 ∷ []) ∷ (0, 0, 0, 0, 18 ∷ []) ∷ (0, 0, 0, 0, 19 ∷ []) ∷ (0, 0, 0, 0, 20 ∷ []) ∷ (0, 0, 0, 0, 21 ∷ []) ∷ (0, 0, 0, 0, 22 ∷ []) ∷ (0, 0, 0, 0, 22 ∷ 23 ∷ 24 ∷ []) ∷ (0, 0, 0, 0, 25 ∷ 26 ∷ 27 ∷ []) ∷
    (0, 0, 0, 0, 22 ∷ 24 ∷ []) ∷ (0, 0, 0, 0, 25 ∷ 26 ∷ 27 ∷ []) ∷ (0, 0, 0, 0, 26 ∷ 28 ∷ 29 ∷ 30 ∷ 31 ∷ []) ∷ (0, 0, 0, 0, 25 ∷ 27 ∷ []) ∷ (0, 0, 0, 0, 26 ∷ 28 ∷ []) ∷ (0, 0, 0, 0, 32 ∷ []) ∷ (0, 0, 0, 0, 33 ∷ []) ∷ (0, 0, 0, 0, 34 ∷ []) ∷
    (0, 0, 0, 0, 35 ∷ []) ∷ (0, 0, 0, 0, 36 ∷ []) ∷ (0, 0, 0, 0, 37 ∷ []) ∷ (0, 0, 0, 0, 38 ∷ []) ∷ (0, 0, 0, 0, 39 ∷ []) ∷ (0, 0, 0, 0, 40 ∷ []) ∷ (0, 0, 0, 0, 41 ∷ []) ∷ (0, 0, 0, 0, 42 ∷ []) ∷
    (0, 0, 0, 0, 43 ∷ []) ∷ (0, 0, 0, 0, 44 ∷ []) ∷ (0, 0, 0, 0, 45 ∷ []) ∷ (0, 0, 0, 0, 46 ∷ []) ∷ (0, 0, 0, 0, 47 ∷ 48 ∷ 49 ∷ []) ∷ (0, 0, 0, 0, 50 ∷ []) ∷ (0, 0, 0, 0, 51 ∷ []) ∷ (0, 0, 0, 0, 47 ∷ 48 ∷ 49 ∷ 52 ∷ []) ∷
    (0, 0, 0, 0, 48 ∷ 53 ∷ 54 ∷ 55 ∷ []) ∷ (0, 0, 0, 0, 47 ∷ 49 ∷ []) ∷ (0, 0, 0, 0, 56 ∷ []) ∷ (0, 0, 0, 0, 57 ∷ []) ∷ (0, 0, 0, 0, 58 ∷ []) ∷ (0, 0, 0, 0, 48 ∷ 53 ∷ []) ∷ (0, 0, 0, 0, 59 ∷ []) ∷ (0, 0, 0, 0, 60 ∷ []) ∷
    (0, 0, 0, 0, 61 ∷ []) ∷ (0, 0, 0, 0, 62 ∷ 63 ∷ []) ∷ (0, 0, 0, 0, 64 ∷ []) ∷ (0, 0, 0, 0, 65 ∷ 66 ∷ 67 ∷ []) ∷ (0, 0, 0, 0, 68 ∷ 69 ∷ 70 ∷ []) ∷ (0, 0, 0, 0, 61 ∷ 71 ∷ 72 ∷ []) ∷ (0, 0, 0, 0, 73 ∷ []) ∷ (0, 0, 0, 0, 74 ∷ []) ∷
    (0, 0, 0, 0, 75 ∷ []) ∷ (0, 0, 0, 0, 65 ∷ 66 ∷ 67 ∷ []) ∷ (0, 0, 0, 0, 66 ∷ 76 ∷ 77 ∷ []) ∷ (0, 0, 0, 0, 65 ∷ 67 ∷ []) ∷ (0, 0, 0, 0, 68 ∷ 69 ∷ 70 ∷ []) ∷ (0, 0, 0, 0, 69 ∷ 78 ∷ 79 ∷ []) ∷ (0, 0, 0, 0, 68 ∷ 70 ∷ []) ∷ (0, 0, 0, 1, 71 ∷ 80 ∷ []) ∷
    (0, 0, 0, 0, 61 ∷ 72 ∷ []) ∷ (0, 0, 0, 0, 81 ∷ []) ∷ (0, 0, 0, 0, 82 ∷ []) ∷ (0, 0, 0, 0, 83 ∷ []) ∷ (0, 0, 0, 0, 84 ∷ 85 ∷ []) ∷ (0, 0, 0, 0, 66 ∷ 77 ∷ []) ∷ (0, 0, 0, 0, 69 ∷ 78 ∷ []) ∷ (0, 0, 0, 0, 86 ∷ []) ∷
    (0, 0, 0, 1, 71 ∷ 80 ∷ []) ∷ (0, 0, 0, 0, 87 ∷ []) ∷ (0, 0, 0, 0, 88 ∷ 89 ∷ []) ∷ (4, 0, 0, 0, 23 ∷ 83 ∷ 90 ∷ []) ∷ (0, 0, 0, 0, 84 ∷ 85 ∷ 91 ∷ []) ∷ (0, 0, 0, 0, 84 ∷ 85 ∷ []) ∷ (0, 0, 0, 0, 92 ∷ 93 ∷ 94 ∷ []) ∷ (0, 0, 0, 0, 95 ∷ []) ∷
    (0, 0, 0, 0, 88 ∷ 89 ∷ 96 ∷ []) ∷ (0, 0, 0, 0, 88 ∷ 89 ∷ []) ∷ (4, 0, 0, 0, 83 ∷ 90 ∷ []) ∷ (0, 0, 0, 0, 91 ∷ 97 ∷ 98 ∷ []) ∷ (0, 0, 0, 0, 92 ∷ 93 ∷ 94 ∷ []) ∷ (0, 0, 0, 0, 93 ∷ 99 ∷ 100 ∷ []) ∷ (0, 0, 0, 0, 92 ∷ 94 ∷ []) ∷ (0, 0, 0, 0, 101 ∷ 102 ∷ []) ∷
    (0, 0, 0, 0, 96 ∷ 103 ∷ 104 ∷ 105 ∷ []) ∷ (0, 0, 0, 0, 97 ∷ 98 ∷ 106 ∷ []) ∷ (0, 0, 0, 0, 97 ∷ 98 ∷ []) ∷ (0, 0, 0, 0, 107 ∷ 108 ∷ []) ∷ (0, 0, 0, 0, 93 ∷ 100 ∷ []) ∷ (0, 0, 0, 0, 101 ∷ 102 ∷ 109 ∷ []) ∷ (0, 0, 0, 0, 101 ∷ 102 ∷ []) ∷ (0, 0, 0, 0, 103 ∷ 104 ∷ 105 ∷ []) ∷
    (0, 0, 0, 0, 110 ∷ 111 ∷ 112 ∷ []) ∷ (0, 0, 0, 0, 103 ∷ 105 ∷ []) ∷ (0, 0, 1, 0, 106 ∷ 113 ∷ 114 ∷ 115 ∷ []) ∷ (0, 0, 0, 0, 107 ∷ 108 ∷ 116 ∷ []) ∷ (0, 0, 0, 0, 107 ∷ 108 ∷ []) ∷ (0, 0, 0, 0, 109 ∷ 111 ∷ 117 ∷ []) ∷ (0, 0, 0, 0, 110 ∷ 111 ∷ 112 ∷ []) ∷ (0, 0, 0, 0, 111 ∷ 117 ∷ 118 ∷ []) ∷
    (0, 0, 0, 0, 110 ∷ 112 ∷ []) ∷ (0, 0, 1, 0, 113 ∷ 114 ∷ 115 ∷ []) ∷ (0, 1, 1, 0, 119 ∷ 120 ∷ 121 ∷ 122 ∷ 123 ∷ []) ∷ (0, 0, 1, 0, 113 ∷ 115 ∷ []) ∷ (0, 0, 0, 0, 116 ∷ 124 ∷ 125 ∷ []) ∷ (0, 0, 0, 0, 111 ∷ 117 ∷ []) ∷ (0, 0, 0, 0, 126 ∷ []) ∷ (0, 1, 1, 0, 119 ∷ 120 ∷ 121 ∷ 122 ∷ 123 ∷ []) ∷
    (0, 0, 1, 0, 120 ∷ 127 ∷ 128 ∷ []) ∷ (4, 0, 1, 0, 83 ∷ 121 ∷ 129 ∷ []) ∷ (1, 4, 1, 0, 83 ∷ 121 ∷ 122 ∷ 129 ∷ []) ∷ (0, 0, 1, 0, 119 ∷ 123 ∷ []) ∷ (0, 0, 0, 0, 124 ∷ 125 ∷ 130 ∷ []) ∷ (0, 0, 0, 0, 124 ∷ 125 ∷ []) ∷ (0, 0, 0, 0, 131 ∷ []) ∷ (0, 0, 1, 0, 132 ∷ 133 ∷ []) ∷
    (0, 0, 1, 0, 120 ∷ 128 ∷ []) ∷ (4, 0, 1, 0, 121 ∷ 129 ∷ []) ∷ (0, 0, 1, 0, 130 ∷ 134 ∷ 135 ∷ 136 ∷ []) ∷ (0, 0, 0, 0, 23 ∷ 131 ∷ 137 ∷ []) ∷ (0, 1, 1, 0, 132 ∷ 133 ∷ 138 ∷ 139 ∷ []) ∷ (0, 0, 1, 0, 132 ∷ 133 ∷ []) ∷ (0, 0, 1, 0, 134 ∷ 135 ∷ 136 ∷ []) ∷ (0, 1, 1, 0, 140 ∷ 141 ∷ 142 ∷ 143 ∷ 144 ∷ []) ∷
    (0, 0, 1, 0, 134 ∷ 136 ∷ []) ∷ (0, 0, 0, 0, 131 ∷ 137 ∷ []) ∷ (4, 0, 1, 0, 121 ∷ 138 ∷ 145 ∷ []) ∷ (1, 5, 1, 0, 121 ∷ 138 ∷ 139 ∷ 145 ∷ []) ∷ (0, 1, 1, 0, 140 ∷ 141 ∷ 142 ∷ 143 ∷ 144 ∷ []) ∷ (0, 0, 1, 0, 141 ∷ 146 ∷ 147 ∷ []) ∷ (1, 0, 1, 0, 142 ∷ 148 ∷ 149 ∷ []) ∷ (1, 4, 1, 0, 142 ∷ 143 ∷ 148 ∷ 149 ∷ []) ∷
    (0, 0, 1, 0, 140 ∷ 144 ∷ []) ∷ (4, 0, 1, 0, 138 ∷ 145 ∷ []) ∷ (0, 0, 1, 0, 150 ∷ 151 ∷ []) ∷ (0, 0, 1, 0, 141 ∷ 147 ∷ []) ∷ (1, 0, 1, 0, 152 ∷ 153 ∷ 154 ∷ []) ∷ (1, 0, 1, 0, 142 ∷ 149 ∷ []) ∷ (0, 1, 1, 0, 150 ∷ 151 ∷ 155 ∷ 156 ∷ []) ∷ (0, 0, 1, 0, 150 ∷ 151 ∷ []) ∷
    (1, 0, 1, 0, 152 ∷ 153 ∷ 154 ∷ []) ∷ (1, 0, 1, 0, 153 ∷ 157 ∷ 158 ∷ []) ∷ (1, 0, 1, 0, 152 ∷ 154 ∷ []) ∷ (1, 0, 1, 0, 142 ∷ 155 ∷ 159 ∷ []) ∷ (1, 5, 1, 0, 142 ∷ 155 ∷ 156 ∷ 159 ∷ []) ∷ (1, 0, 1, 0, 153 ∷ 157 ∷ []) ∷ (1, 0, 1, 0, 160 ∷ []) ∷ (1, 0, 1, 0, 155 ∷ 159 ∷ []) ∷
    (1, 0, 1, 0, 161 ∷ 162 ∷ 163 ∷ []) ∷ (1, 0, 1, 0, 161 ∷ 162 ∷ 163 ∷ []) ∷ (1, 0, 1, 0, 162 ∷ 164 ∷ 165 ∷ []) ∷ (1, 0, 1, 0, 161 ∷ 163 ∷ []) ∷ (1, 0, 1, 0, 166 ∷ 167 ∷ []) ∷ (1, 0, 1, 0, 162 ∷ 165 ∷ []) ∷ (1, 0, 1, 0, 166 ∷ 167 ∷ 168 ∷ []) ∷ (1, 0, 1, 0, 166 ∷ 167 ∷ []) ∷
    (1, 0, 0, 0, 168 ∷ 169 ∷ 170 ∷ []) ∷ (1, 0, 0, 0, 169 ∷ 170 ∷ 171 ∷ []) ∷ (1, 0, 0, 0, 169 ∷ 170 ∷ []) ∷ (1, 0, 1, 0, 171 ∷ 172 ∷ 173 ∷ 174 ∷ []) ∷ (1, 0, 1, 0, 172 ∷ 173 ∷ 174 ∷ []) ∷ (1, 1, 1, 0, 175 ∷ 176 ∷ 177 ∷ 178 ∷ 179 ∷ []) ∷ (1, 0, 1, 0, 172 ∷ 174 ∷ []) ∷ (1, 1, 1, 0, 175 ∷ 176 ∷ 177 ∷ 178 ∷ 179 ∷ []) ∷
    (1, 0, 1, 0, 176 ∷ 180 ∷ 181 ∷ []) ∷ (2, 0, 1, 0, 177 ∷ 182 ∷ 183 ∷ []) ∷ (2, 4, 1, 0, 177 ∷ 178 ∷ 182 ∷ 183 ∷ []) ∷ (1, 0, 1, 0, 175 ∷ 179 ∷ []) ∷ (1, 0, 1, 0, 184 ∷ 185 ∷ []) ∷ (1, 0, 1, 0, 176 ∷ 181 ∷ []) ∷ (2, 0, 1, 0, 83 ∷ 186 ∷ 187 ∷ 188 ∷ []) ∷ (2, 0, 1, 0, 177 ∷ 183 ∷ []) ∷
    (1, 1, 1, 0, 184 ∷ 185 ∷ 189 ∷ 190 ∷ []) ∷ (1, 0, 1, 0, 184 ∷ 185 ∷ []) ∷ (2, 0, 1, 0, 83 ∷ 186 ∷ 187 ∷ 188 ∷ []) ∷ (2, 0, 1, 0, 187 ∷ 191 ∷ 192 ∷ []) ∷ (2, 0, 1, 0, 186 ∷ 188 ∷ []) ∷ (2, 0, 1, 0, 177 ∷ 189 ∷ 193 ∷ []) ∷ (2, 5, 1, 0, 177 ∷ 189 ∷ 190 ∷ 193 ∷ []) ∷ (2, 0, 1, 0, 187 ∷ 191 ∷ []) ∷
    (2, 0, 1, 0, 194 ∷ []) ∷ (2, 0, 1, 0, 189 ∷ 193 ∷ []) ∷ (2, 0, 1, 0, 195 ∷ 196 ∷ 197 ∷ []) ∷ (2, 0, 1, 0, 195 ∷ 196 ∷ 197 ∷ []) ∷ (2, 0, 1, 0, 196 ∷ 198 ∷ 199 ∷ []) ∷ (2, 0, 1, 0, 195 ∷ 197 ∷ []) ∷ (2, 0, 1, 0, 200 ∷ 201 ∷ []) ∷ (2, 0, 1, 0, 196 ∷ 199 ∷ []) ∷
    (2, 0, 1, 0, 200 ∷ 201 ∷ 202 ∷ []) ∷ (2, 0, 1, 0, 200 ∷ 201 ∷ []) ∷ (2, 0, 0, 0, 202 ∷ 203 ∷ 204 ∷ []) ∷ (2, 0, 0, 0, 203 ∷ 204 ∷ 205 ∷ []) ∷ (2, 0, 0, 0, 203 ∷ 204 ∷ []) ∷ (2, 0, 1, 0, 205 ∷ 206 ∷ 207 ∷ 208 ∷ []) ∷ (2, 0, 1, 0, 206 ∷ 207 ∷ 208 ∷ []) ∷ (2, 1, 1, 0, 209 ∷ 210 ∷ 211 ∷ 212 ∷ 213 ∷ []) ∷
    (2, 0, 1, 0, 206 ∷ 208 ∷ []) ∷ (2, 1, 1, 0, 209 ∷ 210 ∷ 211 ∷ 212 ∷ 213 ∷ []) ∷ (2, 0, 1, 0, 210 ∷ 214 ∷ 215 ∷ []) ∷ (3, 0, 1, 0, 211 ∷ 216 ∷ 217 ∷ []) ∷ (3, 4, 1, 0, 211 ∷ 212 ∷ 216 ∷ 217 ∷ []) ∷ (2, 0, 1, 0, 209 ∷ 213 ∷ []) ∷ (2, 0, 1, 0, 218 ∷ 219 ∷ []) ∷ (2, 0, 1, 0, 210 ∷ 215 ∷ []) ∷
    (3, 0, 1, 0, 83 ∷ 220 ∷ 221 ∷ 222 ∷ []) ∷ (3, 0, 1, 0, 211 ∷ 217 ∷ []) ∷ (2, 1, 1, 0, 218 ∷ 219 ∷ 223 ∷ 224 ∷ []) ∷ (2, 0, 1, 0, 218 ∷ 219 ∷ []) ∷ (3, 0, 1, 0, 83 ∷ 220 ∷ 221 ∷ 222 ∷ []) ∷ (3, 0, 1, 0, 221 ∷ 225 ∷ 226 ∷ []) ∷ (3, 0, 1, 0, 220 ∷ 222 ∷ []) ∷ (3, 0, 1, 0, 211 ∷ 223 ∷ 227 ∷ []) ∷
    (3, 5, 1, 0, 211 ∷ 223 ∷ 224 ∷ 227 ∷ []) ∷ (3, 0, 1, 0, 221 ∷ 225 ∷ []) ∷ (3, 0, 1, 0, 228 ∷ []) ∷ (3, 0, 1, 0, 223 ∷ 227 ∷ []) ∷ (3, 0, 1, 0, 229 ∷ 230 ∷ 231 ∷ []) ∷ (3, 0, 1, 0, 229 ∷ 230 ∷ 231 ∷ []) ∷ (3, 0, 1, 0, 230 ∷ 232 ∷ 233 ∷ []) ∷ (3, 0, 1, 0, 229 ∷ 231 ∷ []) ∷
    (3, 0, 1, 0, 234 ∷ 235 ∷ []) ∷ (3, 0, 1, 0, 230 ∷ 233 ∷ []) ∷ (3, 0, 1, 0, 234 ∷ 235 ∷ 236 ∷ []) ∷ (3, 0, 1, 0, 234 ∷ 235 ∷ []) ∷ (3, 0, 0, 0, 236 ∷ 237 ∷ 238 ∷ []) ∷ (3, 0, 0, 0, 237 ∷ 238 ∷ 239 ∷ []) ∷ (3, 0, 0, 0, 237 ∷ 238 ∷ []) ∷ (3, 0, 1, 0, 239 ∷ 240 ∷ 241 ∷ 242 ∷ []) ∷
    (3, 0, 1, 0, 240 ∷ 241 ∷ 242 ∷ []) ∷ (3, 1, 1, 0, 138 ∷ 243 ∷ 244 ∷ 245 ∷ 246 ∷ []) ∷ (3, 0, 1, 0, 240 ∷ 242 ∷ []) ∷ (3, 1, 1, 0, 138 ∷ 243 ∷ 244 ∷ 245 ∷ 246 ∷ []) ∷ (3, 0, 1, 0, 244 ∷ 247 ∷ 248 ∷ []) ∷ (4, 4, 1, 0, 121 ∷ 138 ∷ 145 ∷ 245 ∷ []) ∷ (3, 0, 1, 0, 243 ∷ 246 ∷ []) ∷ (3, 0, 1, 0, 249 ∷ 250 ∷ []) ∷
    (3, 0, 1, 0, 244 ∷ 248 ∷ []) ∷ (3, 1, 1, 0, 249 ∷ 250 ∷ 251 ∷ 252 ∷ []) ∷ (3, 0, 1, 0, 249 ∷ 250 ∷ []) ∷ (4, 0, 1, 0, 138 ∷ 251 ∷ 253 ∷ []) ∷ (4, 5, 1, 0, 138 ∷ 251 ∷ 252 ∷ 253 ∷ []) ∷ (4, 0, 1, 0, 251 ∷ 253 ∷ []) ∷ []

-- a number that stands for no state has that of state 0, `none`
abbrev mark_of : ℕ → Mark
mark_of s = get_or marks s (0, 0, 0, 0, [])

-- ---- the tests
unfoldable all : List Bool → Bool
all [] = true
all (b ∷ more) = b && all more

all_pass : (bs : List Bool) → T (all bs) → Passed bs
unfolding all
all_pass [] t = tt
all_pass (b ∷ more) t = let two = and_yes b (all more) t in (two.0, all_pass more two.1)

-- 1 where a digit begins a bound
unfoldable fresh : ℕ → ℕ
fresh p = cond (eqb p 1) 1 0

-- what a byte of each role asks of the marks of the states before it and after it; k is the most that `paired` may be after a plain one
abbrev plainly : ℕ → Mark → Mark → List Bool
plainly k m n = leb (begun m) (begun n) ∷ leb (run n) 1 ∷ leb (paired n) k ∷ leb (checked n) (checked m) ∷ []

abbrev digits : ℕ → Mark → Mark → List Bool
digits ρ m n =
    (eqb (run m) 1 || eqb (run m) ρ) ∷ leb (begun m + fresh (run m)) (begun n) ∷ leb (begun n) 4 ∷ leb (fresh (run m)) (paired m) ∷ (leb (run n) 1 || eqb (run n) ρ) ∷ leb (paired n) (paired m) ∷ leb (checked n) (checked m) ∷ []

unfoldable fits : Role → Mark → Mark → List Bool
fits other m n = plainly (paired m) m n
fits new_name m n = plainly (paired m) m n
fits first_name m n = plainly 0 m n
fits second_name m n = plainly 1 m n
fits bound_digit m n = digits 4 m n
fits negated_digit m n = digits 5 m n
fits declaration_end m n = plainly (paired m) m n
fits assert_end m n = leb (run n) 1 ∷ leb (paired n) (paired m) ∷ leb (checked n) (checked m) ∷ []
fits check_end m n = leb (begun m) (begun n) ∷ leb (run n) 1 ∷ leb (paired n) (paired m) ∷ []

-- one of these states has the grammar d, and its mark fits after a byte of the role r
unfoldable is_among : List Grammar → Grammar → Role → Mark → List ℕ → Bool
is_among known d r m [] = false
is_among known d r m (t ∷ ts) = (is_equal (same (get_or known t none) d) && all (fits r m (mark_of t))) || is_among known d r m ts

-- the mark keeps to a grammar at these bytes, and at the end
unfoldable is_kept : List Grammar → Grammar → Mark → List ℕ → Bool
is_kept known g m [] = cond (ends g) (eqb (begun m) 0 && leb 1 (checked m)) true
is_kept known g m (b ∷ bs) = (let d = after b g in not (live d) || is_among known d (role_of b g) m (nexts m)) && is_kept known g m bs

-- a sample of each class of bytes; 256 is one for what is no byte
unfoldable tried : List ℕ
tried = 256 ∷ samples

-- the marks keep to these grammars, and so does the mark of no state
unfoldable are_kept : List Grammar → List Grammar → List Mark → Bool
are_kept known [] [] = is_kept known none (0, 0, 0, 0, []) tried
are_kept known [] (m ∷ ms) = false
are_kept known (g ∷ gs) [] = false
are_kept known (g ∷ gs) (m ∷ ms) = is_kept known g m tried && are_kept known gs ms

-- one of the samples is alike to the byte b
unfoldable has_sample : ℕ → List ℕ → Bool
has_sample b [] = false
has_sample b (a ∷ more) = alike a b script || has_sample b more

-- each byte below n has one
unfoldable have_samples : ℕ → Bool
have_samples zero = true
have_samples (suc b) = has_sample b samples && have_samples b

tests-pass : T (are_kept states states marks)
unfolding are_kept is_kept is_among fits fresh all tried marks same both kept by_number kind_no agree alike samples grown origins states role_no ends live follow is_none choose after role_of bytes among is_a spelled blank gap parting opening closing_as symbol_as numeral_as bound difference atom optional held declared command set_logic check_sat script
tests-pass = tt

samples-pass : T (have_samples 256)
unfolding have_samples has_sample agree alike samples bytes among is_a spelled blank gap parting opening closing_as symbol_as numeral_as bound difference atom optional held declared command set_logic check_sat script
samples-pass = tt

-- ---- every number has a sample
-- the list holds bytes only
unfoldable below : List ℕ → Bool
below [] = true
below (a ∷ more) = ltb a 256 && below more

-- the grammar names bytes only: a byte's own kind is numbered after seven others
unfoldable named : Grammar → Bool
named none = true
named empty = true
named (one r k) = ltb (kind_no k) 263
named (g then h) = named g && named h
named (g either h) = named g && named h
named (many g) = named g

module _ (b : ℕ) (far : 256 ≤ b) where
  not-among : (l : List ℕ) → T (below l) → among l b ≡ false
  unfolding below among
  not-among [] t = refl
  not-among (a ∷ more) t =
      let two = and_yes (ltb a 256) (below more) t in
      let l : a < 256 = ltb_yes two.0 in
      rw (ne_eqb b a (λ e. omega arith), not-among more two.1)

  past : (x : Bool) (last : ℕ) → T (ltb last 256) → x && leb b last ≡ false
  past x last t = let l : last < 256 = ltb_yes t in rw (lt-leb b last (omega arith)) (neither x)
    where
      neither : (y : Bool) → y && false ≡ false
      neither true = refl
      neither false = refl

  no-letter : (leb 65 b && leb b 90) || (leb 97 b && leb b 122) ≡ false
  no-letter = rw (past (leb 65 b) 90 tt, past (leb 97 b) 122 tt)

  -- no kind has what is no byte
  of-no-kind : (k : Kind) → T (ltb (kind_no k) 263) → is_a k b ≡ false
  unfolding kind_no is_a below bytes
  of-no-kind (exactly a) t = let l : kind_no (exactly a) < 263 = ltb_yes t in ne_eqb b a (λ e. omega arith)
  of-no-kind space t = not-among (9 ∷ 10 ∷ 13 ∷ 32 ∷ []) tt
  of-no-kind line_end t = not-among (10 ∷ 13 ∷ []) tt
  of-no-kind in_comment t = rw (lt-leb b 255 (omega arith))
  of-no-kind symbol_first t = rw (no-letter, not-among (bytes "~!@$%^&*_-+=<>.?/") tt)
  of-no-kind symbol_byte t = rw (past (leb 48 b) 57 tt, no-letter, not-among (bytes "~!@$%^&*_-+=<>.?/") tt)
  of-no-kind digit t = past (leb 48 b) 57 tt
  of-no-kind leading_digit t = past (leb 49 b) 57 tt

-- so they are all alike
module _ (b : ℕ) (far : 256 ≤ b) where
  far-alike : (g : Grammar) → T (named g) → T (alike 256 b g)
  unfolding named alike agree
  far-alike none t = tt
  far-alike empty t = tt
  far-alike (one r k) t = rw (of-no-kind 256 (omega arith) k t, of-no-kind b far k t) tt
  far-alike (g then h) t = let two = and_yes (named g) (named h) t in yes_and (alike 256 b g) (alike 256 b h) (far-alike g two.0) (far-alike h two.1)
  far-alike (g either h) t = let two = and_yes (named g) (named h) t in yes_and (alike 256 b g) (alike 256 b h) (far-alike g two.0) (far-alike h two.1)
  far-alike (many g) t = far-alike g t

bytes-only : T (named script)
unfolding named kind_no bytes spelled blank gap parting opening closing_as symbol_as numeral_as bound difference atom optional held declared command set_logic check_sat script
bytes-only = tt

near : (n : ℕ) → T (have_samples n) → (b : ℕ) → b < n → T (has_sample b samples)
unfolding have_samples
near zero t b h = absurd (omega arith)
near (suc n) t b h =
    let two = and_yes (has_sample n samples) (have_samples n) t in
    by_cases (ℕ_discrete b n) (λ e. rw e two.0) (λ apart. near n two.1 b (omega arith))

or-first : (x y : Bool) → T x → T (x || y)
or-first true y t = tt
or-first false y t = absurd t

or-second : (x y : Bool) → T y → T (x || y)
or-second true y t = tt
or-second false y t = t

-- a byte below 256 by computation, what is no byte by 256
sampled : (b : ℕ) → T (has_sample b tried)
unfolding tried has_sample
sampled b =
    ⊎_elim (λ (h : b < 256). or-second (alike 256 b script) (has_sample b samples) (near 256 samples-pass b h))
    (λ (h : 256 ≤ b). or-first (alike 256 b script) (has_sample b samples) (far-alike b h script bytes-only)) (lt-or-ge b 256)

-- ---- what the tests give at each state and byte
kept_at : (gs : List Grammar) (ms : List Mark) → T (are_kept states gs ms) → (s : ℕ) → T (is_kept states (get_or gs s none) (get_or ms s (0, 0, 0, 0, [])) tried)
unfolding are_kept
kept_at [] [] t s = t
kept_at [] (m ∷ ms) t s = absurd t
kept_at (g ∷ gs) [] t s = absurd t
kept_at (g ∷ gs) (m ∷ ms) t zero = (and_yes (is_kept states g m tried) (are_kept states gs ms) t).0
kept_at (g ∷ gs) (m ∷ ms) t (suc s) = kept_at gs ms (and_yes (is_kept states g m tried) (are_kept states gs ms) t).1 s

state-kept : (s : ℕ) → T (is_kept states (grammar_of s) (mark_of s) tried)
unfolding grammar_of
state-kept s = kept_at states marks tests-pass s

-- the text may end only where no bound is left over and check-sat was read
ends-kept : (g : Grammar) (m : Mark) (bs : List ℕ) → T (is_kept states g m bs) → ends g ≡ true → (begun m ≡ 0) × (1 ≤ checked m)
unfolding is_kept
ends-kept g m [] t e = let two = and_yes (eqb (begun m) 0) (leb 1 (checked m)) (rw e at t) in (eqb_yes two.0, leb_yes two.1)
ends-kept g m (b ∷ bs) t e = ends-kept g m bs (and_yes (not (live (after b g)) || is_among states (after b g) (role_of b g) m (nexts m)) (is_kept states g m bs) t).1 e

-- a byte leads from a grammar to a state whose mark fits
record Leads (g : Grammar) (m : Mark) (b : ℕ) : Type 0 where
  to : ℕ
  is : grammar_of to ≡ after b g
  fit : Passed (fits (role_of b g) m (mark_of to))

among-leads : (g : Grammar) (m : Mark) (b : ℕ) (ts : List ℕ) → T (is_among states (after b g) (role_of b g) m ts) → Leads g m b
unfolding is_among grammar_of
among-leads g m b [] t = absurd t
among-leads g m b (x ∷ ts) t =
    let r : Role = role_of b g in
    let found : Bool = is_equal (same (get_or states x none) (after b g)) in
    ⊎_elim
    (λ y.
    let two = and_yes found (all (fits r m (mark_of x))) y in
    record { to = x; is = equal_is (same (get_or states x none) (after b g)) two.0; fit = all_pass (fits r m (mark_of x)) two.1 })
    (λ y. among-leads g m b ts y) (or_yes (found && all (fits r m (mark_of x))) (is_among states (after b g) r m ts) t)

-- at the sample that is alike to the byte, and so at the byte
module _ (s b : ℕ) (on : live (after b (grammar_of s)) ≡ true) where
  leads-by : (bs : List ℕ) → T (is_kept states (grammar_of s) (mark_of s) bs) → T (has_sample b bs) → Leads (grammar_of s) (mark_of s) b
  unfolding is_kept has_sample
  leads-by [] t h = absurd h
  leads-by (a ∷ bs) t h =
      let g : Grammar = grammar_of s in
      let d : Grammar = after a g in
      let two = and_yes (not (live d) || is_among states d (role_of a g) (mark_of s) (nexts (mark_of s))) (is_kept states g (mark_of s) bs) t in
      ⊎_elim
      (λ y.
      let l : T (alike a b g) = alike-states a b s y in
      let e : d ≡ after b g = after-alike a b g l in
      let q : T (not (live (after b g)) || is_among states (after b g) (role_of b g) (mark_of s) (nexts (mark_of s))) = rw (← e, ← (role-alike a b g l)) two.0 in
      among-leads g (mark_of s) b (nexts (mark_of s)) (rw on at q))
      (λ y. leads-by bs two.1 y) (or_yes (alike a b script) (has_sample b bs) h)

  leads : Leads (grammar_of s) (mark_of s) b
  leads = leads-by tried (state-kept s) (sampled b)

-- ---- pieces
-- without a first piece of the role of number d
abbrev rest : ℕ → List Piece → List Piece
rest d [] = []
rest d (p ∷ ps) = cond (eqb d (role_no p.role)) ps (p ∷ ps)

module _ (i : ℕ) (r : Role) (w : List ℕ) where
  own : eqb (role_no r) (role_no r) ≡ true
  own = eq-eqb (role_no r) (role_no r) refl

  -- a byte's piece is taken before what the run leaves of the others
  joined : (h : ℕ) (p e : Bool) (ps : List Piece) → Taken r h p e (λ h' p' e'. Whole h' p' e' (rest (role_no r) ps)) → Whole h p e (join_to i r w ps)
  unfolding join_to
  joined h p e [] t = t
  joined h p e (q ∷ ps) t = go (eqb (role_no r) (role_no q.role)) t
    where
      go : (x : Bool) → Taken r h p e (λ h' p' e'. Whole h' p' e' (cond x ps (q ∷ ps))) → Whole h p e (cond x (record { role = r; from = i; word = w ++ q.word } ∷ ps) (record { role = r; from = i; word = w } ∷ q ∷ ps))
      go true t = t
      go false t = t

  rest-own : (ps : List Piece) → rest (role_no r) (join_to i r w ps) ≡ rest (role_no r) ps
  unfolding join_to
  rest-own [] = rw own
  rest-own (p ∷ ps) = go (eqb (role_no r) (role_no p.role))
    where
      go : (x : Bool) → rest (role_no r) (cond x (record { role = r; from = i; word = w ++ p.word } ∷ ps) (record { role = r; from = i; word = w } ∷ p ∷ ps)) ≡ cond x ps (p ∷ ps)
      go true = rw own
      go false = rw own

  rest-apart : (d : ℕ) (ps : List Piece) → (d ≡ role_no r → ⊥) → rest d (join_to i r w ps) ≡ join_to i r w ps
  unfolding join_to
  rest-apart d [] n = rw (ne_eqb d (role_no r) n)
  rest-apart d (p ∷ ps) n = go (eqb (role_no r) (role_no p.role))
    where
      go : (x : Bool) → rest d (cond x (record { role = r; from = i; word = w ++ p.word } ∷ ps) (record { role = r; from = i; word = w } ∷ p ∷ ps)) ≡ cond x (record { role = r; from = i; word = w ++ p.word } ∷ ps) (record { role = r; from = i; word = w } ∷ p ∷ ps)
      go true = rw (ne_eqb d (role_no r) n)
      go false = rw (ne_eqb d (role_no r) n)

-- ---- what holds on the way
-- at a state with the mark m, after a byte of the role of number d that is taken
record Sits (m : Mark) (d h : ℕ) (p e : Bool) : Type 0 where
  few : h ≤ begun m
  pair : 1 ≤ paired m → T p
  read : 1 ≤ checked m → T e
  goes_on : 4 ≤ run m → d ≡ run m
  second : d ≡ 3 → T p
  closed : d ≡ 7 → h ≡ 0
  done : d ≡ 8 → T e

-- one byte: in the run before it, or the first of a piece that is taken
module _ (m n : Mark) (d h : ℕ) (p e : Bool) (on : Sits m d h p e) (i : ℕ) (w : List ℕ) (ps : List Piece) (later : (d' h' : ℕ) (p' e' : Bool) → Sits n d' h' p' e' → Whole h' p' e' (rest d' ps)) where
  by-run : (r : Role) → (d ≡ role_no r → Sits n (role_no r) h p e) → ((d ≡ role_no r → ⊥) → Taken r h p e (λ h' p' e'. Whole h' p' e' (rest (role_no r) ps))) → Whole h p e (rest d (join_to i r w ps))
  by-run r f g =
      by_cases (ℕ_discrete d (role_no r)) (λ y. rw (y, rest-own i r w ps) (later (role_no r) h p e (f y)))
      (λ y. rw (rest-apart i r w d ps y) (joined i r w h p e ps (g y)))

  -- bytes that neither begin a bound nor end an assert or check-sat; x says of the last name of an atom after them what p says before
  plain : (ρ k : ℕ) (x : Bool) → T (not (eqb ρ 7)) → T (not (eqb ρ 8)) → (1 ≤ k → T x) → (ρ ≡ 3 → T x) → Passed (plainly k m n) → Sits n ρ h x e
  plain ρ k x s t pairs seconds fit =
      let most : begun m ≤ begun n = leb_yes fit.0 in
      let none-comes : run n ≤ 1 = leb_yes fit.1.0 in
      let at_most : paired n ≤ k = leb_yes fit.1.1.0 in
      let last : checked n ≤ checked m = leb_yes fit.1.1.1.0 in
      record {
        few = omega (arith, on.few);
        pair = λ q. pairs (omega arith);
        read = λ q. on.read (omega arith);
        goes_on = λ q. absurd (omega arith);
        second = seconds;
        closed = λ q. absurd (eqb_no s q);
        done = λ q. absurd (eqb_no t q);
      }

  -- of them, those of no name of an atom
  unnamed : (ρ : ℕ) → T (not (eqb ρ 3)) → T (not (eqb ρ 7)) → T (not (eqb ρ 8)) → Passed (plainly (paired m) m n) → Sits n ρ h p e
  unnamed ρ u s t fit = plain ρ (paired m) p s t on.pair (λ q. absurd (eqb_no u q)) fit

  -- a first name's
  first-named : (x : Bool) → Passed (plainly 0 m n) → Sits n 2 h x e
  first-named x fit = plain 2 0 x tt tt (λ q. absurd (omega arith)) (λ q. absurd (omega arith)) fit

  -- a second name's
  second-named : (x : Bool) → T x → Passed (plainly 1 m n) → Sits n 3 h x e
  second-named x t fit = plain 3 1 x tt tt (λ q. t) (λ q. t) fit

  -- a bound's digits, ρ being 4 or 5: the bound begins where the byte before was none of them
  module _ (ρ : ℕ) (u : T (not (eqb ρ 3))) (s : T (not (eqb ρ 7))) (t : T (not (eqb ρ 8))) (big : 4 ≤ ρ) (fit : Passed (digits ρ m n)) where
    most : begun m + fresh (run m) ≤ begun n
    most = leb_yes fit.1.0

    asked : fresh (run m) ≤ paired m
    asked = leb_yes fit.1.1.1.0

    bounded : (k : ℕ) → k ≤ begun n → Sits n ρ k p e
    bounded k less =
        let still : paired n ≤ paired m = leb_yes fit.1.1.1.1.1.0 in
        let last : checked n ≤ checked m = leb_yes fit.1.1.1.1.1.1.0 in
        record {
          few = less;
          pair = λ q. on.pair (omega arith);
          read = λ q. on.read (omega arith);
          goes_on = λ q. ⊎_elim (λ (y : T (leb (run n) 1)). absurd (let z : run n ≤ 1 = leb_yes y in omega arith)) (λ (y : T (eqb (run n) ρ)). sym (eqb_yes y)) (or_yes (leb (run n) 1) (eqb (run n) ρ) fit.1.1.1.1.0);
          second = λ q. absurd (eqb_no u q);
          closed = λ q. absurd (eqb_no s q);
          done = λ q. absurd (eqb_no t q);
        }

    goes-on-bounded : Sits n ρ h p e
    goes-on-bounded = bounded h (omega (arith, on.few, most))

    -- where it begins there is room for it, and the last name of an atom was its second
    room : (d ≡ ρ → ⊥) → (suc h ≤ begun n) × T p
    unfolding fresh
    room y =
        ⊎_elim
        (λ (z : T (eqb (run m) 1)).
        let one_more : begun m + 1 ≤ begun n = rw (is_true (eqb (run m) 1) z) at most in
        let was-second : 1 ≤ paired m = rw (is_true (eqb (run m) 1) z) at asked in
        (omega (arith, on.few), on.pair was-second))
        (λ (z : T (eqb (run m) ρ)). let is : run m ≡ ρ = eqb_yes z in absurd (y (on.goes_on (omega arith) ∙ is)))
        (or_yes (eqb (run m) 1) (eqb (run m) ρ) fit.0)

    begins-bounded : (d ≡ ρ → ⊥) → (h < 4) × T p × Whole (suc h) p e (rest ρ ps)
    begins-bounded y =
        let most-in : begun n ≤ 4 = leb_yes fit.1.1.0 in
        let one_more : suc h ≤ begun n = (room y).0 in
        (omega arith, (room y).1, later ρ (suc h) p e (bounded (suc h) one_more))

  -- an assert's end: no bound stands since
  asserted : (k : ℕ) → k ≡ 0 → Passed (fits assert_end m n) → Sits n 7 k p e
  unfolding fits
  asserted k z fit =
      let none-comes : run n ≤ 1 = leb_yes fit.0 in
      let still : paired n ≤ paired m = leb_yes fit.1.0 in
      let last : checked n ≤ checked m = leb_yes fit.1.1.0 in
      record {
        few = omega arith;
        pair = λ q. on.pair (omega arith);
        read = λ q. on.read (omega arith);
        goes_on = λ q. absurd (omega arith);
        second = λ q. absurd (omega arith);
        closed = λ q. z;
        done = λ q. absurd (omega arith);
      }

  -- the end of check-sat
  finished : (x : Bool) → T x → Passed (fits check_end m n) → Sits n 8 h p x
  unfolding fits
  finished x t fit =
      let most-so-far : begun m ≤ begun n = leb_yes fit.0 in
      let none-comes : run n ≤ 1 = leb_yes fit.1.0 in
      let still : paired n ≤ paired m = leb_yes fit.1.1.0 in
      record {
        few = omega (arith, on.few);
        pair = λ q. on.pair (omega arith);
        read = λ q. t;
        goes_on = λ q. absurd (omega arith);
        second = λ q. absurd (omega arith);
        closed = λ q. absurd (omega arith);
        done = λ q. t;
      }

  -- by the byte's role
  byte-taken : (r : Role) → Passed (fits r m n) → Whole h p e (rest d (join_to i r w ps))
  unfolding fits role_no
  byte-taken other fit = by-run other (λ y. unnamed 0 tt tt tt fit) (λ y. later 0 h p e (unnamed 0 tt tt tt fit))
  byte-taken new_name fit = by-run new_name (λ y. unnamed 1 tt tt tt fit) (λ y. later 1 h p e (unnamed 1 tt tt tt fit))
  byte-taken first_name fit = by-run first_name (λ y. first-named p fit) (λ y. later 2 h false e (first-named false fit))
  byte-taken second_name fit = by-run second_name (λ y. second-named p (on.second y) fit) (λ y. later 3 h true e (second-named true tt fit))
  byte-taken bound_digit fit = by-run bound_digit (λ y. goes-on-bounded 4 tt tt tt (omega arith) fit) (λ y. begins-bounded 4 tt tt tt (omega arith) fit y)
  byte-taken negated_digit fit = by-run negated_digit (λ y. goes-on-bounded 5 tt tt tt (omega arith) fit) (λ y. begins-bounded 5 tt tt tt (omega arith) fit y)
  byte-taken declaration_end fit = by-run declaration_end (λ y. unnamed 6 tt tt tt fit) (λ y. later 6 h p e (unnamed 6 tt tt tt fit))
  byte-taken assert_end fit = by-run assert_end (λ y. asserted h (on.closed y) fit) (λ y. later 7 0 p e (asserted 0 refl fit))
  byte-taken check_end fit = by-run check_end (λ y. finished e (on.done y) fit) (λ y. later 8 h p true (finished true tt fit))

-- ---- a whole text, from each state on
not-refused : (x : Bool) (i : ℕ) (o : Option ℕ) → cond x o (refused i) ≡ fine → (x ≡ true) × (o ≡ fine)
not-refused true i o e = (refl, e)
not-refused false i o e = absurd (never (cc))

-- By induction on the text: at its end the state's mark says that no bound is left over and check-sat was read; a byte leads to a state whose mark
-- fits, and is taken before the pieces of what follows.
whole_from : (text : List ℕ) (i s d h : ℕ) (p e : Bool) → place_from i (grammar_of s) text ≡ fine → Sits (mark_of s) d h p e → Whole h p e (rest d (pieces i (grammar_of s) text))
unfolding place_from pieces
whole_from [] i s d h p e ok on =
    let end : ends (grammar_of s) ≡ true = (not-refused (ends (grammar_of s)) i fine ok).0 in
    let two = ends-kept (grammar_of s) (mark_of s) tried (state-kept s) end in
    (omega (arith, on.few, two.0), on.read two.1)
whole_from (b ∷ text) i s d h p e ok on =
    let g : Grammar = grammar_of s in
    let two = not-refused (live (after b g)) i (place_from (suc i) (after b g) text) ok in
    let l = leads s b two.0 in
    let place : place_from (suc i) (grammar_of l.to) text ≡ fine = rw l.is two.1 in
    let later : (d' h' : ℕ) (p' e' : Bool) → Sits (mark_of l.to) d' h' p' e' → Whole h' p' e' (rest d' (pieces (suc i) (after b g) text)) =
    λ d' h' p' e' sits. rw (← l.is) (whole_from text (suc i) l.to d' h' p' e' place sits) in
    rw two.0 (byte-taken (mark_of s) (mark_of l.to) d h p e on i (b ∷ []) (pieces (suc i) (after b g) text) later (role_of b g) l.fit)

-- ---- the claim for scripts: state 1 is `script`
first-state : grammar_of 1 ≡ script
unfolding grammar_of states grown origins
first-state = refl

-- before the first byte there is none: 9 is no role's number
no-role : (r : Role) → eqb 9 (role_no r) ≡ false
unfolding role_no
no-role other = refl
no-role new_name = refl
no-role first_name = refl
no-role second_name = refl
no-role bound_digit = refl
no-role negated_digit = refl
no-role declaration_end = refl
no-role assert_end = refl
no-role check_end = refl

all_left : (ps : List Piece) → rest 9 ps ≡ ps
all_left [] = refl
all_left (p ∷ ps) = rw (no-role p.role)

at_first : Sits (mark_of 1) 9 0 false false
unfolding marks
at_first = record { few = omega arith; pair = λ q. absurd (omega arith); read = λ q. absurd (omega arith); goes_on = λ q. absurd (omega arith); second = λ q. absurd (omega arith); closed = λ q. refl; done = λ q. absurd (omega arith) }

pub whole : (text : List ℕ) (i : ℕ) → place_from i script text ≡ fine → Whole 0 false false (pieces i script text)
whole text i p =
    let q : place_from i (grammar_of 1) text ≡ fine = rw (first-state) p in
    rw (← first-state, ← (all_left (pieces i (grammar_of 1) text))) (whole_from text i 1 9 0 false false q at_first)
