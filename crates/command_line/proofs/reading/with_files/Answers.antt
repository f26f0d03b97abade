-- The files come first, and then more files.
use Rattle.command_line.proofs.reading.with_files.Goals as goal

pub returns-in_ok-and_argument-in-Several : goal.returns-in_ok-and_argument-in-Several
returns-in_ok-and_argument-in-Several c app is =
    rw c.in-Several.is (c.and_argument-in-Several-2.ensures _ _ (c.in_ok-and_argument-in-Several.ensures _ _ is c.file-in-Several.ensures) c.more_files.ensures)

pub returns-in_ok-and_argument-in-AfterThreads : goal.returns-in_ok-and_argument-in-AfterThreads
returns-in_ok-and_argument-in-AfterThreads c app is =
    rw c.in-AfterThreads.is (c.and_argument-in-AfterThreads-2.ensures _ _ (c.in_ok-and_argument-in-AfterThreads.ensures _ _ is c.needed-threads.ensures) c.file-in-AfterThreads.ensures)

pub returns-in_ok-and_argument-in-AfterPolicy : goal.returns-in_ok-and_argument-in-AfterPolicy
returns-in_ok-and_argument-in-AfterPolicy c app is =
    rw c.in-AfterPolicy.is (c.and_argument-in-AfterPolicy-2.ensures _ _ (c.in_ok-and_argument-in-AfterPolicy.ensures _ _ is c.needed-policy.ensures) c.file-in-AfterPolicy.ensures)
