-- `write_script` meets its contract: by whether the problem is accepted and its text fits the room.
use Rattle.std.proofs.Common.{◌≡◌, sym, ap, ◌∙◌, List, ℕ, length, arith}
use lib.Seq.{length-take-le}
use Rattle.meaning.proofs.Accepted.{passes}
use Rattle.problem.specs.Reads.{given}
use Rattle.std.proofs.lemmas.Result.{err_from_is_err_and}
use Rattle.script.specs.Text.{text_of, zeros}
use Rattle.script.proofs.Leaving.{put_whole, leaves-refused, leaves-too-long, leaves-text}
use Rattle.script.proofs.writing.write_script.Goals as goal

-- the room that is cleared is all zeros
cleared-there : (room : List ℕ) {held : List ℕ} → (((y : ℕ) → y ≡ 0 → y ≡ 0) → held ≡ zeros (length room)) → held ≡ zeros (length room)
cleared-there room f = f (λ y e. e)

pub returns-in_err-refusal : goal.returns-in_err-refusal
returns-in_err-refusal c =
    let e = err_from_is_err_and c.from_residual.result c.from_residual.ensures.1 in
    rw (e.1, e.2, cleared-there c.args.room.now c.fill.ensures.after) (leaves-refused _ (length c.args.room.now) _ c.in_err-refusal.ensures)

pub put_text-requires : goal.put_text-requires
put_text-requires c = (passes _ (sym c.in_ok-refusal.ensures)).steps

pub returns-then-room-whole : goal.returns-then-room-whole
returns-then-room-whole c =
    let l = given c.args.n c.args.triples.now c.args.counts.now in
    let is : c.text-whole.result.now ≡ text_of l = c.text-whole.ensures ∙ put_whole l (sym c.in_ok-refusal.ensures) c.new-out.ensures.at_front.1 c.new-out.ensures.at_front.0 c.put_text.ensures in
    rw (cleared-there c.args.room.now c.fill.ensures.after) (leaves-too-long l (length c.args.room.now) (sym c.in_ok-refusal.ensures) (omega (arith, ap length is, c.fill.ensures.len)))

pub copy_from_slice-requires : goal.copy_from_slice-requires
copy_from_slice-requires c = length-take-le (length c.text-whole.result.now) c.fill.new.self (omega arith)

pub returns : goal.returns
returns c =
    let l = given c.args.n c.args.triples.now c.args.counts.now in
    let is : c.text-whole.result.now ≡ text_of l = c.text-whole.ensures ∙ put_whole l (sym c.in_ok-refusal.ensures) c.new-out.ensures.at_front.1 c.new-out.ensures.at_front.0 c.put_text.ensures in
    rw (c.copy_from_slice.ensures.after, cleared-there c.args.room.now c.fill.ensures.after, is)
    (leaves-text l (length c.args.room.now) (sym c.in_ok-refusal.ensures) (omega (arith, ap length is, c.fill.ensures.len)))
