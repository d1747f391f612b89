-- What `columns::ScaledPlace::travel_to` owes.
use mir.Syntax.{w32}
use Rattle.numbers.proofs.Words.{natural_fits, result_is}
use Rattle.columns.proofs.TravelLaws.{far_small, far_sum}
use Rattle.columns.proofs.ScaledPlace.travel_to.Goals as goal

pub overflow_add-result : goal.overflow_add-result
overflow_add-result c =
    let p = c.args.self.in_range in
    let q = c.args.other.in_range in
    natural_fits w32 _ _ (far_sum _ _ _ _ p q _ _ c.apart.ensures c.apart-2.ensures) (far_small _ _ _ _ p q)

pub returns : goal.returns
returns c =
    let p = c.args.self.in_range in
    let q = c.args.other.in_range in
    result_is w32 _ _ (far_sum _ _ _ _ p q _ _ c.apart.ensures c.apart-2.ensures) (record { sfits = far_small _ _ _ _ p q })
