-- What `exhaustive::line_numbers::Divisor::divide` owes.
use Rattle.exhaustive.proofs.Division.{divided_is}
use Rattle.exhaustive.proofs.line_numbers.Divisor.divide.Goals as goal

pub returns : goal.returns
returns c =
    let d = c.args.self.dividing in
    divided_is c.args.n c.args.self.by c.args.self.reciprocal d.some d.most d.reciprocal_is c.requires
