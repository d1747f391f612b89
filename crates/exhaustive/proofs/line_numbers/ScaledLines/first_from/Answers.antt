-- What `exhaustive::line_numbers::ScaledLines::first_from` owes.
use mathlib.Core.Path.{◌≡◌, ◌∙◌}
use native.Mathlib.Omega.{arith}
use mir.Syntax.{w64}
use mir.ValLaws.{to_z-of_z}
use Rattle.exhaustive.specs.Ramps.{height_of, start_limit}
use Rattle.exhaustive.proofs.Heights.{height_most}
use Rattle.exhaustive.proofs.Division.{divided_up}
use Rattle.exhaustive.proofs.TableLaws.{from_below, from_above, from_table}
use Rattle.exhaustive.proofs.line_numbers.ScaledLines.first_from.Goals as goal

pub returns-then-t-lowest : goal.returns-then-t-lowest
returns-then-t-lowest c =
    let d = c.args.self.now.divisor.dividing in
    let risen : c.height-t.result ≡ height_of c.args.start = c.height-t.ensures ∙ rw (to_z-of_z w64 c.args.start c.ranges.start) in
    from_below _ d.some _ c.args.self.now.plain.in_range c.args.start c.requires _ risen d.most c.if-t-lowest.true

pub divide-slot-requires : goal.divide-slot-requires
divide-slot-requires c =
    let d = c.args.self.now.divisor.dividing in
    let risen : c.height-t.result ≡ height_of c.args.start = c.height-t.ensures ∙ rw (to_z-of_z w64 c.args.start c.ranges.start) in
    omega (arith, risen, height_most c.args.start start_limit c.requires (omega arith), d.most)

pub returns-then-slot-gt-LAST_SLOT : goal.returns-then-slot-gt-LAST_SLOT
returns-then-slot-gt-LAST_SLOT c =
    let d = c.args.self.now.divisor.dividing in
    let risen : c.height-t.result ≡ height_of c.args.start = c.height-t.ensures ∙ rw (to_z-of_z w64 c.args.start c.ranges.start) in
    from_above _ d.some _ c.args.self.now.plain.in_range c.args.start c.requires _ risen d.most c.if-t-lowest.false _
    (divided_up _ _ _ d.some c.divide-slot.ensures) c.if-slot-gt-LAST_SLOT.true

pub returns : goal.returns
returns c =
    let d = c.args.self.now.divisor.dividing in
    let risen : c.height-t.result ≡ height_of c.args.start = c.height-t.ensures ∙ rw (to_z-of_z w64 c.args.start c.ranges.start) in
    from_table _ d.some _ c.args.self.now.plain.in_range c.args.start c.requires _ risen d.most c.if-t-lowest.false _
    (divided_up _ _ _ d.some c.divide-slot.ensures) _ c.args.self.now.plain.numbered c.if-slot-gt-LAST_SLOT.false
