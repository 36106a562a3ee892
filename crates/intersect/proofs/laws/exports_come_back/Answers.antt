use Rattle.intersect.proofs.laws.exports_come_back.Goals as goal

pub returns : goal.returns
returns c = λ rule add import export own h. h.comes_back
