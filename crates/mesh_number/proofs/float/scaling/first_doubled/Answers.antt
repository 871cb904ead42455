use Rattle.std.proofs.Common.{◌≡◌, ◌*◌, ◌^◌, ◌<◌, ◌≤◌, arith}
use Rattle.ember_wide.specs.Whole.{size_of}
use Rattle.mesh_number.proofs.Powers.{doublings_kept, power_stored}
use Rattle.mesh_number.proofs.float.scaling.first_doubled.Goals as goal

pub returns-clause-value : goal.returns-clause-value
returns-clause-value c =
    let doublings = c.sure_doublings-doublings in
    let stored = power_stored doublings.result doublings.ensures.most in
    let product : size_of c.product.result ≡ c.args.n.now.low * 2 ^ doublings.result = rw stored at c.product.ensures in
    let low : size_of c.args.n.now ≡ c.args.n.now.low = omega (arith, c.if-n-ne0.false) in
    doublings_kept (size_of c.args.n.now) doublings.result (size_of c.product.result)
    (omega (arith, doublings.ensures.most)) (rw low product)

pub returns-clause-short : goal.returns-clause-short
returns-clause-short c =
    let doublings = c.sure_doublings-doublings in
    let stored = power_stored doublings.result doublings.ensures.most in
    let product : size_of c.product.result ≡ c.args.n.now.low * 2 ^ doublings.result = rw stored at c.product.ensures in
    rw product doublings.ensures.short
