use Rattle.drive.proofs.Driving.{asked}
use Rattle.drive.proofs.make.Goals as goal

pub returns-in-Report : goal.returns-in-Report
returns-in-Report g c =
    asked g.T.Table g.S.Source g.K.Sink c.args.call c.args.reading.now c.in-Report.is
