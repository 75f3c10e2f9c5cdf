use Rattle.pl_run.proofs.fault.write_line.Goals as goal

pub returns-in-CannotRead-clause-front : goal.returns-in-CannotRead-clause-front
returns-in-CannotRead-clause-front g c = rw c.in-CannotRead.is c.write_whole.ensures.front

pub returns-in-CannotWrite-clause-front : goal.returns-in-CannotWrite-clause-front
returns-in-CannotWrite-clause-front g c = rw c.in-CannotWrite.is c.write_whole-in-CannotWrite.ensures.front

pub returns-in-CommandLine-clause-front : goal.returns-in-CommandLine-clause-front
returns-in-CommandLine-clause-front g c = rw c.in-CommandLine.is c.write_whole-in-CommandLine.ensures.front

pub returns-in-BadLine-clause-front : goal.returns-in-BadLine-clause-front
returns-in-BadLine-clause-front g c = rw c.in-BadLine.is c.write_bad_line.ensures.front

pub returns-in-BadLines-clause-front : goal.returns-in-BadLines-clause-front
returns-in-BadLines-clause-front g c = rw c.in-BadLines.is c.write_bad_lines.ensures.front

pub returns-in-TooLong-clause-front : goal.returns-in-TooLong-clause-front
returns-in-TooLong-clause-front g c = rw c.in-TooLong.is c.write_whole-in-TooLong.ensures.front

pub returns-in-Endless-clause-front : goal.returns-in-Endless-clause-front
returns-in-Endless-clause-front g c = rw c.in-Endless.is c.write_whole-in-Endless.ensures.front

pub returns-in-NoMemory-clause-front : goal.returns-in-NoMemory-clause-front
returns-in-NoMemory-clause-front g c = rw c.in-NoMemory.is c.write_whole-in-NoMemory.ensures.front

pub returns-in-NothingExpected-clause-front : goal.returns-in-NothingExpected-clause-front
returns-in-NothingExpected-clause-front g c = rw c.in-NothingExpected.is c.write_whole-in-NothingExpected.ensures.front
