-- `matrix_order::in_order` meets its contract: the two questions are the law `order-says`. Assumes nothing.
use Rattle.matrix_order.proofs.Order.{order-says}
use Rattle.matrix_order.proofs.in_order.Goals as goal

pub returns : goal.returns
returns c =
    order-says c.requires
    c.descents.result c.row_descents.result c.too_large.result
    c.descents.ensures c.row_descents.ensures c.too_large.ensures
