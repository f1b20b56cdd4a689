mod WrittenOut
