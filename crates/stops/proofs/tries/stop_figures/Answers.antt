-- Each arm writes the figures that the definition gives that answer.
-- Assumes nothing.
use Rattle.stops.proofs.tries.stop_figures.Goals as goal

pub returns-in-TextTooLong : goal.returns-in-TextTooLong
returns-in-TextTooLong c = rw c.in-TextTooLong.is

pub returns-in-NotUtf8 : goal.returns-in-NotUtf8
returns-in-NotUtf8 c = rw c.in-NotUtf8.is

pub returns-in-HandLine : goal.returns-in-HandLine
returns-in-HandLine c = rw c.in-HandLine.is

pub returns-in-NoEntry : goal.returns-in-NoEntry
returns-in-NoEntry c = rw c.in-NoEntry.is

pub returns-in-Stopped : goal.returns-in-Stopped
returns-in-Stopped c = rw (c.in-Stopped.is, ← c.reason_number.ensures)
