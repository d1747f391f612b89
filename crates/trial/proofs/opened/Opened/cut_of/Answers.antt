-- What `trial::opened::Opened::cut_of` owes.
use mathlib.Core.Path.{ap, ◌∙◌}
use Rattle.query.specs.Grid.{Grid}
use Rattle.deck.specs.Values.{rect_of}
use Rattle.lines.specs.LineRecord.{grid_of}
use Rattle.cuts.specs.CutRecord.{cut_record}
use Rattle.trial.proofs.OpenLaws.{whole_grid}
use Rattle.trial.proofs.opened.Opened.cut_of.Goals as goal

pub returns : goal.returns
returns c =
    c.find_cut.ensures ∙ (λ i. cut_record (grid_of (c.as_slice.ensures.lines i) (c.as_slice-2.ensures.lines i)) (rect_of c.args.rect))
    ∙ ap (λ (G : Grid). cut_record G (rect_of c.args.rect)) (whole_grid c.args.self.now)
