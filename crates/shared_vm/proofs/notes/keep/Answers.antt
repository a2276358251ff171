use Rattle.shared_vm.proofs.NotingLaws.{Keeps-plain, Keeps-bytes, Keeps-access, Keeps-pins}
use Rattle.shared_vm.proofs.notes.keep.Goals as goal

pub returns-in-Bytes-clause-keeps : goal.returns-in-Bytes-clause-keeps
returns-in-Bytes-clause-keeps c =
    Keeps-bytes c.args.answer _ _ _ _ _ _ c.as_slice.ensures.value c.as_slice.ensures.few c.append.ensures.items c.append.ensures.start
    c.append.ensures.end c.in-Bytes.is

pub returns-in-Access-clause-keeps : goal.returns-in-Access-clause-keeps
returns-in-Access-clause-keeps c =
    Keeps-access c.args.answer _ _ _ _ _ _ c.as_slice-in-Access.ensures.value c.as_slice-in-Access.ensures.few c.append-in-Access.ensures.items
    c.append-in-Access.ensures.start c.append-in-Access.ensures.end c.in-Access.faults c.in-Access.is

pub returns-in-Pins-clause-keeps : goal.returns-in-Pins-clause-keeps
returns-in-Pins-clause-keeps c =
    Keeps-pins c.args.answer _ _ _ _ _ _ c.as_slice-in-Pins.ensures.value c.as_slice-in-Pins.ensures.few c.append-in-Pins.ensures.items
    c.append-in-Pins.ensures.start c.append-in-Pins.ensures.end c.in-Pins.is

pub returns-in-Done-clause-keeps : goal.returns-in-Done-clause-keeps
returns-in-Done-clause-keeps c = Keeps-plain _ _ _ _ c.in-Done.is

pub returns-in-Number-clause-keeps : goal.returns-in-Number-clause-keeps
returns-in-Number-clause-keeps c = Keeps-plain _ _ _ _ c.in-Number.is

pub returns-in-Address-clause-keeps : goal.returns-in-Address-clause-keeps
returns-in-Address-clause-keeps c = Keeps-plain _ _ _ _ c.in-Address.is

pub returns-in-Faults-clause-keeps : goal.returns-in-Faults-clause-keeps
returns-in-Faults-clause-keeps c = Keeps-plain _ _ _ _ c.in-Faults.is

pub returns-in-Info-clause-keeps : goal.returns-in-Info-clause-keeps
returns-in-Info-clause-keeps c = Keeps-plain _ _ _ _ c.in-Info.is

pub returns-in-Runs-clause-keeps : goal.returns-in-Runs-clause-keeps
returns-in-Runs-clause-keeps c = Keeps-plain _ _ _ _ c.in-Runs.is

pub returns-in-Stat-clause-keeps : goal.returns-in-Stat-clause-keeps
returns-in-Stat-clause-keeps c = Keeps-plain _ _ _ _ c.in-Stat.is

pub returns-in-Refused-clause-keeps : goal.returns-in-Refused-clause-keeps
returns-in-Refused-clause-keeps c = Keeps-plain _ _ _ _ c.in-Refused.is
