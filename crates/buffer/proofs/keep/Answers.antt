-- `buffer::keep` meets its contract: what is copied to the front is what stands behind the place.
use mathlib.Core.Path.{sym, ap, ◌∙◌}
use lib.ListN.{drop, length-drop}
use lib.Seq.{paste}
use Rattle.std.proofs.lemmas.List.{drop_min}
use Rattle.printing.specs.Wrote.{wrote}
use Rattle.printing.proofs.Texts.{wrote_pasted}
use Rattle.buffer.proofs.keep.Goals as goal

pub returns-clause-bytes : goal.returns-clause-bytes
returns-clause-bytes c =
    let buf = c.args.buf.now in
    let from = c.min-from.result in
    c.copy_within.ensures.after
    ∙ ap (paste buf 0 (drop from buf)) (sym (length-drop from buf))
    ∙ wrote_pasted buf 0 (drop from buf)
    ∙ ap (wrote buf 0) (ap (λ k. drop k buf) c.min-from.ensures ∙ drop_min c.args.from buf)
