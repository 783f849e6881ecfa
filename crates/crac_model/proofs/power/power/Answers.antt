use Rattle.std.proofs.Common.{◌*◌, ◌^◌, ◌≤◌}
use Rattle.crac_model.proofs.PowerLaws.{nothing_carried, much_carried, great_current, found_carried}
use Rattle.crac_model.proofs.power.power.Goals as goal

pub returns-then-voltage-eq0 : goal.returns-then-voltage-eq0
returns-then-voltage-eq0 c = nothing_carried c.args.current c.args.voltage c.if-voltage-eq0.true

pub returns-then-current-ge-GREAT_PRODUCT : goal.returns-then-current-ge-GREAT_PRODUCT
returns-then-current-ge-GREAT_PRODUCT c =
    much_carried c.args.current c.args.voltage (great_current c.args.current c.args.voltage c.if-current-ge-GREAT_PRODUCT.true c.if-voltage-eq0.false)

pub returns-then-product-ge-GREAT_PRODUCT : goal.returns-then-product-ge-GREAT_PRODUCT
returns-then-product-ge-GREAT_PRODUCT c =
    let great : 10 ^ 14 ≤ c.args.current * c.args.voltage = rw (c.from.ensures) at c.if-product-ge-GREAT_PRODUCT.true in
    much_carried c.args.current c.args.voltage great

pub returns : goal.returns
returns c =
    let found = rw (c.from.ensures) at c.greatest_carried.ensures in
    found_carried c.args.current c.args.voltage c.greatest_carried.result found.most found.holds found.fails
