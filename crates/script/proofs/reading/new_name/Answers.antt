-- `script::new_name` meets its contract. Assumes nothing.
use mathlib.Core.Path.{◌≡◌, refl, sym}
use mathlib.Core.Bool.{true, false}
use Rattle.meaning.specs.declared.Refusal.TheVariants.{Script}
use Rattle.script.specs.Words.{is_new}
use Rattle.script.specs.Reading.{with_new}
use Rattle.script.specs.Notes.{word_at, names_of}
use Rattle.script.proofs.Taking.{new-refused, renamed, new-taken, piece-lies, kept_on, took-refused, took-going}
use Rattle.script.proofs.reading.new_name.Goals as goal

pub returns : goal.returns
returns c =
    let a = c.args in
    let r = a.notes in
    let text = a.text.now in
    let w = word_at text a.name in
    let e : is_new (names_of text r.names) w ≡ false = rw c.word.ensures at (sym c.if-is_new.ensures) in
    took-refused text a.name r c.requires (with_new a.name.from w) Script a.name.from refl (λ R t. new-refused R a.name.from w (rw (← t.names-are) e))

pub returns-then-is_new : goal.returns-then-is_new
returns-then-is_new c =
    let a = c.args in
    let r = a.notes in
    let text = a.text.now in
    let w = word_at text a.name in
    let e : is_new (names_of text r.names) w ≡ true = rw c.word.ensures at (sym c.if-is_new.ensures) in
    let k = kept_on text a.name r c.requires in
    took-going text a.name r c.requires (with_new a.name.from w) (record { names = r.names; new = a.name; x = r.x; y = r.y; rules = r.rules }) (λ R. renamed R w)
    (record {
      names-within = k.names-within;
      new-within = piece-lies text a.name r c.requires;
      few-clauses = k.few-clauses;
      few = k.few;
    })
    (λ R t. new-taken R a.name.from w (rw (← t.names-are) e))
    (λ R t. record { names-are = t.names-are; new_is = refl; x-is = t.x-is; y-is = t.y-is; rules-are = t.rules-are })
