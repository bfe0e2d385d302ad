mod Windowing
