mod ArrivalCases
mod TextCases
