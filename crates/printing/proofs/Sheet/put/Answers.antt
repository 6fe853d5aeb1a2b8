-- `printing::Sheet::put` meets its contract: the text is copied over the part at the place.
use mathlib.Core.Path.{refl, ap, ◌∙◌}
use lib.ListN.{length}
use Rattle.printing.proofs.Texts.{wrote_copied, length-wrote}
use Rattle.printing.proofs.Sheet.put.Goals as goal

pub returns : goal.returns
returns c =
    let sheet = c.args.self.now in
    let text = c.args.text.now in
    let bytes = wrote_copied sheet.out.now sheet.at text _ c.copy_from_slice.ensures.after in
    record {
      lent = refl;
      size = ap length bytes ∙ length-wrote sheet.out.now sheet.at text c.requires;
      place = refl;
      bytes = bytes;
    }
