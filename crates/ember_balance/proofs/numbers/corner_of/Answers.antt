use Rattle.ember_balance.proofs.EdgeNumbers.{read_digit, digits_of}
use Rattle.ember_balance.proofs.numbers.corner_of.Goals as goal

pub returns : goal.returns
returns c k v e =
    let d = digits_of k v _ e in
    let x = read_digit k.x _ v.x d.0 in let y = read_digit k.y _ v.y d.1 in let z = read_digit k.z _ v.z d.2 in
    λ i. record { x = x i; y = y i; z = z i }
