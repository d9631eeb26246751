use Rattle.std.proofs.Common.{◌<◌, arith}
use Rattle.drat.proofs.Shapes.{leb_most}
use Rattle.drat_vectors.proofs.leb.Goals as goal

pub put_code-requires-clause-n_in_bounds : goal.put_code-requires-clause-n_in_bounds
put_code-requires-clause-n_in_bounds c =
    let p : 0 < c.args.n = omega arith in
    omega (arith, leb_most c.args.n p (omega arith))
