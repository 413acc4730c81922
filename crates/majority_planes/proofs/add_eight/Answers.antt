-- `majority_planes::add_eight`: seven adders of three words, and three of two, the last without a carry.
use Rattle.majority_planes.proofs.Adders.{eight-added}
use Rattle.majority_planes.proofs.add_eight.Goals as goal

pub returns : goal.returns
returns c =
    eight-added _ _ _ _ _ _ _ _ _ _ _ _ _ _ _ _ _ _ _ _ _ _ _ _ _ _ _ _
    record {
      odd1 = c.odd-a0.ensures;
      most1 = c.most-s0.ensures;
      odd2 = c.odd-a1.ensures;
      most2 = c.most-s1.ensures;
      odd3 = c.odd-a2.ensures;
      most3 = c.most-s2.ensures;
      odd4 = c.odd-a3.ensures;
      most4 = c.most-s3.ensures;
      odd5 = c.odd-b0.ensures;
      most5 = c.most-t0.ensures;
      odd6 = c.odd-b1.ensures;
      most6 = c.most-t1.ensures;
      odd7 = c.odd-c0.ensures;
      most7 = c.most-u.ensures;
    }
